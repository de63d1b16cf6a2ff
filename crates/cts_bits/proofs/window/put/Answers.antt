use Rattle.std.proofs.Common.{length, arith}
use Rattle.cts_bits.proofs.Turns.{put_more, put_all}
use Rattle.cts_bits.proofs.window.put.Goals as goal

pub loop-done-preserved : goal.loop-done-preserved
loop-done-preserved c =
    put_more c.args.order c.loop-done.window (length c.args.window.now) c.args.number c.loop-done.rest c.loop-done.done c.turned.result
    c.loop-done.auto.window c.loop-done-test.true c.turned.ensures.value c.loop-done.invariant

pub returns : goal.returns
returns c =
    put_all c.args.order c.loop-done.window (length c.args.window.now) c.args.number c.loop-done.rest c.loop-done.done
    c.loop-done.auto.window (omega arith) (omega arith) c.requires c.loop-done.invariant
