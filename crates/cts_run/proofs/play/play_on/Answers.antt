use Rattle.std.proofs.Common.{subst}
use Rattle.cts_chain.specs.Builds.{FaultIs}
use Rattle.cts_connection.specs.LineChains.{line_uses}
use Rattle.cts_def.specs.Sites.{SiteData}
use Rattle.cts_run.proofs.PlayingLemmas.{shelf_leaves, shelf_performs}
use Rattle.cts_run.proofs.play.play_on.Goals as goal

pub returns-in-Some-clause-performs : goal.returns-in-Some-clause-performs
returns-in-Some-clause-performs g c = λ site vault e.
    let stock = g.B.Stocked.stock c.args.shelf.now in
    rw c.from.ensures (shelf_performs stock site c.args.log.now _ c.in-Some.fault _ (subst (λ (s : SiteData). FaultIs stock (line_uses s) c.in-Some.fault) e c.in-Some.ensures.short.1))

pub returns-in-Some-clause-boxes : goal.returns-in-Some-clause-boxes
returns-in-Some-clause-boxes g c = λ site e.
    let stock = g.B.Stocked.stock c.args.shelf.now in
    rw c.from.ensures (shelf_leaves stock site c.args.log.now _ c.in-Some.fault (subst (λ (s : SiteData). FaultIs stock (line_uses s) c.in-Some.fault) e c.in-Some.ensures.short.1))
