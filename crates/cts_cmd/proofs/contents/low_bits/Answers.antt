use Rattle.std.proofs.Common.{arith}
use Rattle.std.proofs.lemmas.Grind.{common_steps}
use Rattle.cts_cmd.proofs.contents.low_bits.Goals as goal

pub returns-then-is_signed-clause-value : goal.returns-then-is_signed-clause-value
returns-then-is_signed-clause-value c = grind (arith, common_steps)

pub returns-then-is_signed-clause-spelled : goal.returns-then-is_signed-clause-spelled
returns-then-is_signed-clause-spelled c = grind (arith, common_steps)

pub returns-else-is_signed-clause-value : goal.returns-else-is_signed-clause-value
returns-else-is_signed-clause-value c = grind (arith, common_steps)

pub returns-else-is_signed-clause-spelled : goal.returns-else-is_signed-clause-spelled
returns-else-is_signed-clause-spelled c = grind (arith, common_steps)
