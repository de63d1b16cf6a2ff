use Rattle.cts_server.proofs.Complete.{completes}
use Rattle.cts_server.proofs.laws.sites_are_complete.Goals as goal

pub returns : goal.returns
returns g c = λ site digest w dialers dialers' doors doors' vault vault' kept interfaces slots desks scribe.
    completes g.D.Link.seen g.Q.Link.seen g.V.Vault.seen site digest dialers dialers' doors doors' vault vault' w kept interfaces slots desks scribe
