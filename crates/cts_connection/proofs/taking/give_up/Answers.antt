use Rattle.std.proofs.Common.{sym, ap}
use Rattle.cts_chain.specs.Chains.{packet_at}
use Rattle.cts_connection.proofs.Gathering.{gone_more, gone_done, blame_is, fewer_wait}
use Rattle.cts_connection.specs.Takings.{blamed}
use Rattle.cts_connection.proofs.taking.give_up.Goals as goal

pub loop-unposted-preserved : goal.loop-unposted-preserved
loop-unposted-preserved g c =
    let f = g.C.Chained.shape in
    let d = f c.next.new.self in
    let e = c.in-Packet.ensures in
    gone_more (f c.args.chain.now) (f c.loop-unposted.chain) d (packet_at d.lent d.place) c.loop-unposted.unposted c.saturating_add-unposted.result c.loop-unposted.invariant e.rises e.chain e.same c.saturating_add-unposted.ensures

pub loop-unposted-smaller : goal.loop-unposted-smaller
loop-unposted-smaller g c =
    let f = g.C.Chained.shape in
    let d = f c.next.new.self in
    let e = c.in-Packet.ensures in
    fewer_wait (f c.loop-unposted.chain).stages d.stages d.lent d.place e.answers.0 e.rises

pub returns-in-More-clause-gives : goal.returns-in-More-clause-gives
returns-in-More-clause-gives g c =
    let f = g.C.Chained.shape in
    let e = c.in-More.ensures in
    gone_done (f c.args.chain.now) (f c.loop-unposted.chain) (f c.next.new.self) c.loop-unposted.unposted _ c.loop-unposted.invariant e.rises e.same e.answers.0 (ap blamed (sym e.answers.1))

pub returns-in-Bad-clause-gives : goal.returns-in-Bad-clause-gives
returns-in-Bad-clause-gives g c =
    let f = g.C.Chained.shape in
    let e = c.in-Bad.ensures in
    gone_done (f c.args.chain.now) (f c.loop-unposted.chain) (f c.next.new.self) c.loop-unposted.unposted _ c.loop-unposted.invariant e.rises e.same e.answers.0 (blame_is _ _ _ e.answers.1)
