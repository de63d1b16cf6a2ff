use Rattle.cts_encode.proofs.OneSpelling.{one_spelling}
use Rattle.cts_encode.proofs.laws.one_spelling.Goals as goal

pub returns : goal.returns
returns c = one_spelling
