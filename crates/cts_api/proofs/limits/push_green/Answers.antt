use Rattle.std.proofs.Common.{arith}
use Rattle.std.proofs.lemmas.Grind.{common_steps}
use Rattle.cts_api.proofs.limits.push_green.Goals as goal

pub returns-in_ok-push_decimal-in-Some : goal.returns-in_ok-push_decimal-in-Some
returns-in_ok-push_decimal-in-Some c = grind (arith, common_steps)
