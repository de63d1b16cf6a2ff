use Rattle.std.proofs.Common.{◌≡◌, true, set, sym, ap, ◌∙◌, subst}
use Rattle.cts_connection.specs.LinePlaces.{is_line}
use Rattle.cts_entry.specs.Legal.{StopsAfter}
use Rattle.cts_core.specs.Takings.{IsClosed}
use Rattle.cts_core.specs.Worlds.{Held, IsSoundHeld, connection_of, held_with}
use Rattle.cts_core.proofs.Exchanging.{closes_is, found}
use Rattle.cts_core.proofs.Holding.{IsOpen, sound_closed, stands_at}
use Rattle.cts_core.proofs.running.Running.close.Goals as goal

pub close-requires : goal.close-requires
close-requires g c =
    let w = held_with c.self.inside.time c.self.inside.hall c.self.inside.connections.items in
    let line = subst (λ (x : Held). is_line x.basis.site c.args.by ≡ true) (sym c.self.view_is) c.requires.line in
    let is : IsOpen w c.args.by true = stands_at w c.args.by c.self.invariant line (ap (λ (x : Held). (connection_of x c.args.by).connected) c.self.view_is ∙ c.requires.connected) in
    record { line = is.line; on = is.on; stops = subst (λ (x : Held). StopsAfter x.history c.args.why) (sym c.self.view_is) c.requires.stops }

pub invariant_of-self : goal.invariant_of-self
invariant_of-self g c =
    let w = held_with c.self.inside.time c.self.inside.hall c.self.inside.connections.items in
    let line = subst (λ (x : Held). is_line x.basis.site c.args.by ≡ true) (sym c.self.view_is) c.requires.line in
    let f = found w _ c.args.by c.place-place.result c.index_mut-connection.result.now c.self.view_is c.place-place.ensures.place c.place-place.ensures.there c.index_mut-connection.ensures.value in
    let done = closes_is w.time c.self.inside.hall c.close.new.hall w.connections c.args.by c.place-place.result _ c.close.new.self f c.args.why c.close.ensures in
    subst IsSoundHeld (sym done.2) (sound_closed w c.args.by (connection_of w c.args.by) done.0 c.args.why c.self.invariant line done.1.connected_is)

pub returns : goal.returns
returns g c =
    let w = held_with c.self.inside.time c.self.inside.hall c.self.inside.connections.items in
    let f = found w _ c.args.by c.place-place.result c.index_mut-connection.result.now c.self.view_is c.place-place.ensures.place c.place-place.ensures.there c.index_mut-connection.ensures.value in
    subst (λ (x : Held). IsClosed c.args.by x c.args.why (held_with w.time c.close.new.hall (set w.connections c.place-place.result c.close.new.self))) c.self.view_is
    (closes_is w.time c.self.inside.hall c.close.new.hall w.connections c.args.by c.place-place.result _ c.close.new.self f c.args.why c.close.ensures)
