use Rattle.std.proofs.Common.{rules}
use Rattle.cts_defstatement.proofs.cause.DefCause.name.Goals as goal

pub returns-in-BadName : goal.returns-in-BadName
returns-in-BadName c = search rules
