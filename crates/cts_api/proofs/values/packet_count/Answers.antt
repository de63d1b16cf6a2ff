use Rattle.std.proofs.Common.{arith}
use Rattle.std.proofs.lemmas.Grind.{common_steps}
use Rattle.cts_api.proofs.values.packet_count.Goals as goal

pub overflow_cast-number : goal.overflow_cast-number
overflow_cast-number c = grind (arith, common_steps)

pub returns : goal.returns
returns c = grind (arith, common_steps)

pub returns-in_err-number : goal.returns-in_err-number
returns-in_err-number c = grind (arith, common_steps)

pub returns-then-not-spells : goal.returns-then-not-spells
returns-then-not-spells c = grind (arith, common_steps)

pub returns-then-spells : goal.returns-then-spells
returns-then-spells c = grind (arith, common_steps)
