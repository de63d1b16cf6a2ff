use Rattle.cts_encode.proofs.Again.{spellings_are_read}
use Rattle.cts_encode.proofs.laws.spellings.Goals as goal

pub returns : goal.returns
returns c = spellings_are_read
