use Rattle.std.proofs.Common.{sym, ◌∙◌, ap, subst}
use Rattle.cts_chain.specs.Chains.{packet_at}
use Rattle.cts_def.specs.declared.time.Time.{Time}
use Rattle.cts_trace.specs.Routing.{said_of}
use Rattle.cts_connection.specs.Routings.{site_routing}
use Rattle.cts_connection.specs.Takings.{blamed}
use Rattle.cts_connection.proofs.Gathering.{Sofar, sofar_more, gathered, given_up, time_told, fewer_wait, blame_is}
use Rattle.cts_connection.proofs.taking.gather.Goals as goal

pub loop-own-preserved : goal.loop-own-preserved
loop-own-preserved g c =
    let f = g.C.Chained.shape in
    let d = f c.next.new.self in
    let h = c.args.hall.now in
    let o = packet_at d.lent d.place in
    let e = c.in-Packet.ensures in
    let time = c.unwrap_or.ensures ∙ time_told c.in-Packet.own d.lent d.place c.args.time e.answers.1 in
    let is = ap (λ (t : Time). record { by = c.args.by; time = t; what = said_of (site_routing h.basis.site) h.entries c.args.by o }) time in
    let more = sofar_more h.basis.site h.entries c.args.by c.args.time (f c.args.chain.now) (f c.loop-own.chain) d c.args.entries.now.items c.loop-own.entries.items o _ c.loop-own.invariant e.rises e.chain e.same is in
    subst (λ l. Sofar h.basis.site h.entries c.args.by c.args.time (f c.args.chain.now) c.args.entries.now.items l d) (sym c.in-Ok.ensures.ok) more

pub loop-own-smaller : goal.loop-own-smaller
loop-own-smaller g c =
    let f = g.C.Chained.shape in
    let d = f c.next.new.self in
    let e = c.in-Packet.ensures in
    fewer_wait (f c.loop-own.chain).stages d.stages d.lent d.place e.answers.0 e.rises

pub returns-in-Err-clause-gathers : goal.returns-in-Err-clause-gathers
returns-in-Err-clause-gathers g c =
    let f = g.C.Chained.shape in
    let d = f c.next.new.self in
    let h = c.args.hall.now in
    let e = c.in-Packet.ensures in
    given_up h.basis.site h.entries c.args.by c.args.time (f c.args.chain.now) (f c.loop-own.chain) d (f c.give_up-given.new.chain) c.args.entries.now.items c.loop-own.entries.items _ (packet_at d.lent d.place)
    c.give_up-given.result.unposted c.saturating_add.result c.give_up-given.result.why c.loop-own.invariant e.rises e.same c.give_up-given.ensures.gives c.saturating_add.ensures c.in-Err.ensures.err

pub returns-in-More-clause-gathers : goal.returns-in-More-clause-gathers
returns-in-More-clause-gathers g c =
    let f = g.C.Chained.shape in
    let h = c.args.hall.now in
    let e = c.in-More.ensures in
    gathered h.basis.site h.entries c.args.by c.args.time (f c.args.chain.now) (f c.loop-own.chain) (f c.next.new.self) c.args.entries.now.items c.loop-own.entries.items _ c.loop-own.invariant e.rises e.same e.answers.0 (ap blamed (sym e.answers.1))

pub returns-in-Bad-clause-gathers : goal.returns-in-Bad-clause-gathers
returns-in-Bad-clause-gathers g c =
    let f = g.C.Chained.shape in
    let h = c.args.hall.now in
    let e = c.in-Bad.ensures in
    gathered h.basis.site h.entries c.args.by c.args.time (f c.args.chain.now) (f c.loop-own.chain) (f c.next.new.self) c.args.entries.now.items c.loop-own.entries.items _ c.loop-own.invariant e.rises e.same e.answers.0 (blame_is _ _ _ e.answers.1)
