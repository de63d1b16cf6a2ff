use Rattle.cts_server.proofs.Telling.{tells_first}
use Rattle.cts_server.proofs.outcome.laws.first_trouble_is_told.Goals as goal

pub returns : goal.returns
returns c = tells_first
