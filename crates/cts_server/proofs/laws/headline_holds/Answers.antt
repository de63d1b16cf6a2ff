use Rattle.cts_server.proofs.Headlines.{headline_holds}
use Rattle.cts_server.proofs.laws.headline_holds.Goals as goal

pub returns : goal.returns
returns g c = headline_holds g.D.Link.seen g.Q.Link.seen g.V.Vault.seen
