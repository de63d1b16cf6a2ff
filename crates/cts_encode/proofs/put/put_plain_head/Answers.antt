use Rattle.std.proofs.Common.{rules, arith}
use Rattle.std.proofs.lemmas.Grind.{common_steps}
use Rattle.cts_encode.proofs.put.put_plain_head.Goals as goal

pub returns-clause-items : goal.returns-clause-items
returns-clause-items c = grind (arith, common_steps)

pub returns-clause-capacity : goal.returns-clause-capacity
returns-clause-capacity c = search rules
