use Rattle.std.proofs.Common.{arith}
use Rattle.std.proofs.lemmas.Grind.{common_steps}
use Rattle.cts_api.proofs.limits.item_limits.Goals as goal

pub returns-in-Some : goal.returns-in-Some
returns-in-Some c = grind (arith, common_steps)

pub returns : goal.returns
returns c = grind (arith, common_steps)

pub returns-then-is_none : goal.returns-then-is_none
returns-then-is_none c = grind (arith, common_steps)

pub overflow_cast-packet : goal.overflow_cast-packet
overflow_cast-packet c = grind (arith, common_steps)

pub returns-in_err-place : goal.returns-in_err-place
returns-in_err-place c = grind (arith, common_steps)

pub returns-in_err-set : goal.returns-in_err-set
returns-in_err-set c = grind (arith, common_steps)
