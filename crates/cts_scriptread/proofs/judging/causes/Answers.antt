use Rattle.std.proofs.Common.{rules}
use Rattle.cts_scriptread.proofs.judging.causes.Goals as goal

pub returns : goal.returns
returns c = search rules
