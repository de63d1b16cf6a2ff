use Rattle.std.proofs.Common.{rules}
use Rattle.cts_defstatement.proofs.refusal.causes.Goals as goal

pub returns : goal.returns
returns c = search rules
