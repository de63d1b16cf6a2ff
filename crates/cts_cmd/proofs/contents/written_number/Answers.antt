use Rattle.std.proofs.Common.{arith, rules}
use Rattle.std.proofs.lemmas.Grind.{common_steps}
use Rattle.cts_cmd.proofs.contents.written_number.Goals as goal

pub returns-then-is_spelled-clause-value : goal.returns-then-is_spelled-clause-value
returns-then-is_spelled-clause-value c = search rules

pub returns-then-is_spelled-clause-spelled : goal.returns-then-is_spelled-clause-spelled
returns-then-is_spelled-clause-spelled c = search rules

pub returns-else-is_spelled-clause-value : goal.returns-else-is_spelled-clause-value
returns-else-is_spelled-clause-value c = search rules

pub returns-else-is_spelled-clause-spelled : goal.returns-else-is_spelled-clause-spelled
returns-else-is_spelled-clause-spelled c = search rules

pub bent-requires-clause-some : goal.bent-requires-clause-some
bent-requires-clause-some c = search rules

pub bent-requires-clause-at_most_64 : goal.bent-requires-clause-at_most_64
bent-requires-clause-at_most_64 c = grind (arith, common_steps)
