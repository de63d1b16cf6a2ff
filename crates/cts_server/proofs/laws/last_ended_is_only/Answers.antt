use Rattle.cts_server.proofs.Once.{last_ended_is_only}
use Rattle.cts_server.proofs.laws.last_ended_is_only.Goals as goal

pub returns : goal.returns
returns c = last_ended_is_only
