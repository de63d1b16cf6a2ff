use Rattle.std.proofs.Common.{arith}
use Rattle.std.proofs.lemmas.Grind.{common_steps}
use Rattle.cts_api.proofs.limits.known_set.Goals as goal

pub returns : goal.returns
returns c = grind (arith, common_steps)

pub returns-then-not-set_known : goal.returns-then-not-set_known
returns-then-not-set_known c = grind (arith, common_steps)
