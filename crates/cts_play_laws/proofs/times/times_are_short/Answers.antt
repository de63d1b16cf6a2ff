use Rattle.std.proofs.Common.{◌≤◌, length, arith}
use Rattle.cts_play_laws.proofs.Timed.{times_end, times_step}
use Rattle.cts_play_laws.proofs.times.times_are_short.Goals as goal

-- src/times.rt:12:5
pub loop-n-preserved : goal.loop-n-preserved
loop-n-preserved g c = times_step (g.H.Stands.list c.args.history.now) c.loop-n.n c.lend.result.now c.lend.ensures c.is_short.ensures c.loop-n.invariant

-- src/times.rt:8:1
pub returns : goal.returns
returns g c =
    let l : length (g.H.Stands.list c.args.history.now) ≤ c.loop-n.n = let e = c.count-n-end.ensures in let f = c.loop-n-test.false in omega (arith, e, f) in
    times_end (g.H.Stands.list c.args.history.now) c.loop-n.n l c.loop-n.invariant
