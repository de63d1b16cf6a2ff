use Rattle.cts_server.proofs.Closed.{drained}
use Rattle.cts_server.proofs.laws.drained_logs_are_whole.Goals as goal

pub returns : goal.returns
returns c = drained
