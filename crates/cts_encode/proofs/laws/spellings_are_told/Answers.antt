use Rattle.cts_encode.proofs.Told.{spelled_bytes, told}
use Rattle.cts_encode.proofs.laws.spellings_are_told.Goals as goal

pub returns : goal.returns
returns c = record { told = told; bytes = spelled_bytes }
