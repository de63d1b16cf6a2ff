use Rattle.cts_defstatement.proofs.OwnWords.{details_of_words, items_of_words}
use Rattle.cts_defstatement.proofs.laws.statements_say_their_words.Goals as goal

pub returns : goal.returns
returns c = record { items = items_of_words; details = details_of_words }
