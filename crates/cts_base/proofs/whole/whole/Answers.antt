use Rattle.std.proofs.Common.{rules}
use Rattle.cts_base.proofs.whole.whole.Goals as goal

pub returns : goal.returns
returns c = search rules
