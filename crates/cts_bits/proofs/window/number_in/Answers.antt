use Rattle.std.proofs.Common.{arith}
use Rattle.cts_bits.proofs.Turns.{gather_more, gather_all, number_in-lt}
use Rattle.cts_bits.proofs.window.number_in.Goals as goal

pub loop-i-preserved : goal.loop-i-preserved
loop-i-preserved c =
    gather_more c.args.order c.args.window.now c.loop-i.i c.loop-i.number c.from.result c.turned.result c.requires c.loop-i-test.true
    (λ k. omega (arith, c.type_inv.window k)) c.loop-i.invariant c.turned.ensures.value c.from.ensures

pub returns-clause-value : goal.returns-clause-value
returns-clause-value c = gather_all c.args.order c.args.window.now c.loop-i.i c.loop-i.number (omega arith) c.loop-i.invariant

pub returns-clause-fits : goal.returns-clause-fits
returns-clause-fits c =
    let e = gather_all c.args.order c.args.window.now c.loop-i.i c.loop-i.number (omega arith) c.loop-i.invariant in
    rw e (number_in-lt c.args.order c.args.window.now (λ k. omega (arith, c.type_inv.window k)))
