use Rattle.cts_scribe.proofs.Stopping.{readable}
use Rattle.cts_scribe.proofs.laws.stops_leave_logs.Goals as goal

pub returns : goal.returns
returns c = readable
