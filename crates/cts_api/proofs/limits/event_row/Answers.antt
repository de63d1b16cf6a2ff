use Rattle.std.proofs.Common.{arith}
use Rattle.std.proofs.lemmas.Grind.{common_steps}
use Rattle.std.proofs.lemmas.Option.{gets}
use Rattle.cts_api.proofs.limits.event_row.Goals as goal

pub returns-in_default : goal.returns-in_default
returns-in_default c = grind (arith, common_steps, gets)

pub returns-in-None : goal.returns-in-None
returns-in-None c = grind (arith, common_steps, gets)

pub returns-in_ok-row_of-in-Some-get : goal.returns-in_ok-row_of-in-Some-get
returns-in_ok-row_of-in-Some-get c = grind (arith, common_steps, gets)
