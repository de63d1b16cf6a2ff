use Rattle.cts_server.proofs.Causing.{stops_are_caused}
use Rattle.cts_server.proofs.laws.stops_are_caused.Goals as goal

pub returns : goal.returns
returns g c = stops_are_caused g.D.Link.seen g.Q.Link.seen g.V.Vault.seen
