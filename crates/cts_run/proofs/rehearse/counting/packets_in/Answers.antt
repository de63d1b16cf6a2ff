use Rattle.std.proofs.Common.{arith}
use Rattle.std.proofs.lemmas.Grind.{common_steps}
use Rattle.cts_entry.proofs.Walks.{drop_lent}
use Rattle.cts_run.proofs.rehearse.counting.packets_in.Goals as goal

pub loop-n-preserved : goal.loop-n-preserved
loop-n-preserved g c =
    let next = drop_lent (g.H.Stands.list c.args.history.now) c.loop-n.n c.lend.result.now c.lend.ensures in
    let before = c.loop-n.invariant.counted in
    let few = c.loop-n.invariant.few in
    let test = c.is_packet.ensures in
    grind (arith, common_steps)

pub returns : goal.returns
returns g c =
    let end = c.count-n-end.ensures in
    let before = c.loop-n.invariant.counted in
    grind (arith, common_steps)
