use Rattle.cts_log_parts.proofs.Leaving.{stops_leave}
use Rattle.cts_log_parts.proofs.laws.stops_leave_parts.Goals as goal

pub returns : goal.returns
returns c = stops_leave
