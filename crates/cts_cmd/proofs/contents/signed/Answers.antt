use Rattle.std.proofs.Common.{arith}
use Rattle.std.proofs.lemmas.Grind.{common_steps}
use Rattle.cts_cmd.proofs.contents.signed.Goals as goal

pub returns-then-number-bits : goal.returns-then-number-bits
returns-then-number-bits c = grind (arith, common_steps)

pub returns-else-number-bits : goal.returns-else-number-bits
returns-else-number-bits c = grind (arith, common_steps)

pub overflow_cast-bits : goal.overflow_cast-bits
overflow_cast-bits c = grind (arith, common_steps)

pub overflow_shl-bits : goal.overflow_shl-bits
overflow_shl-bits c = grind (arith, common_steps)

pub overflow_shl-result : goal.overflow_shl-result
overflow_shl-result c = grind (arith, common_steps)

pub overflow_sub-result : goal.overflow_sub-result
overflow_sub-result c = grind (arith, common_steps)

pub overflow_sub-bits : goal.overflow_sub-bits
overflow_sub-bits c = grind (arith, common_steps)
