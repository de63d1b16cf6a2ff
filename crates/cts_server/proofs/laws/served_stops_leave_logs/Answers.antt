use Rattle.cts_server.proofs.Leaving.{served_stops_leave_logs}
use Rattle.cts_server.proofs.laws.served_stops_leave_logs.Goals as goal

pub returns : goal.returns
returns g c = served_stops_leave_logs g.D.Link.seen g.Q.Link.seen g.V.Vault.seen
