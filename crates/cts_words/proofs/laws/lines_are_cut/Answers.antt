use Rattle.cts_words.proofs.Joined.{lines-feed, lines-last}
use Rattle.cts_words.proofs.laws.lines_are_cut.Goals as goal

pub returns-clause-feeds : goal.returns-clause-feeds
returns-clause-feeds c = λ line rest e. lines-feed line rest e

pub returns-clause-last : goal.returns-clause-last
returns-clause-last c = λ c line e. lines-last c line e
