use Rattle.cts_words.proofs.Joined.{joined-group, join_word}
use Rattle.cts_words.proofs.laws.lines_are_joined.Goals as goal

pub returns-clause-statements : goal.returns-clause-statements
returns-clause-statements c = λ n front last rest e ends. joined-group n front last rest e ends

pub returns-clause-join_word : goal.returns-clause-join_word
returns-clause-join_word c = λ ws w. join_word ws w
