use Rattle.cts_words.proofs.Refused.{first_one_is_refused}
use Rattle.cts_words.proofs.laws.first_one_is_refused.Goals as goal

pub returns : goal.returns
returns g c = first_one_is_refused
