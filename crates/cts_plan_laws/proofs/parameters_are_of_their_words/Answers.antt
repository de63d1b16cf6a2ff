use Rattle.cts_plan_laws.proofs.WordsRead.{parameters_are_of_their_words}
use Rattle.cts_plan_laws.proofs.parameters_are_of_their_words.Goals as goal

pub returns : goal.returns
returns c = parameters_are_of_their_words
