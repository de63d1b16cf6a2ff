use Rattle.cts_run.proofs.AboveLemmas.{later_turn}
use Rattle.cts_run.proofs.hub.above.latest_turn.Goals as goal

pub loop-n-preserved : goal.loop-n-preserved
loop-n-preserved g c =
    later_turn (g.H.Stands.list c.args.history.now) c.args.maker c.loop-n.n c.lend.result.now c.loop-n.found c.connects.result c.or-found.result _ c.lend.ensures c.connects.ensures c.or-found.ensures c.loop-n.invariant
