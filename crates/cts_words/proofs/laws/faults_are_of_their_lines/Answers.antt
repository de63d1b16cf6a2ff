use Rattle.cts_words.proofs.FaultPlacing.{first_open_is_told, closed_are_not_told, join_is_told}
use Rattle.cts_words.proofs.laws.faults_are_of_their_lines.Goals as goal

pub returns-clause-left_open : goal.returns-clause-left_open
returns-clause-left_open c = first_open_is_told

pub returns-clause-closed : goal.returns-clause-closed
returns-clause-closed c = closed_are_not_told

pub returns-clause-dangling : goal.returns-clause-dangling
returns-clause-dangling c = join_is_told
