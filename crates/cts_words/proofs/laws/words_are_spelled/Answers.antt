use Rattle.cts_words.proofs.Spelled.{words_found, none_found, words_spelled, open_left}
use Rattle.cts_words.proofs.laws.words_are_spelled.Goals as goal

pub returns-clause-words : goal.returns-clause-words
returns-clause-words c = λ line ws. (words_spelled line ws, words_found line ws)

pub returns-clause-open : goal.returns-clause-open
returns-clause-open c = λ line. (open_left line, none_found line)
