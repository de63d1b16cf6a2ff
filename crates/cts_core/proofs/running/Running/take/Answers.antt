use Rattle.std.proofs.Common.{◌≡◌, true, refl, sym, subst, set}
use Rattle.std.specs.Prelude.{IfOk}
use Rattle.cts_connection.specs.LinePlaces.{is_line}
use Rattle.cts_core.specs.Takings.{Takes}
use Rattle.cts_core.specs.Worlds.{Held, IsUnmoved, held_with}
use Rattle.cts_core.proofs.Exchanging.{found, sound_exchanged, takes_is}
use Rattle.cts_core.proofs.running.Running.take.Goals as goal

pub take-requires : goal.take-requires
take-requires g c = subst (λ (x : Held). is_line x.basis.site c.args.by ≡ true) (sym c.self.view_is) c.requires

pub invariant_of-self : goal.invariant_of-self
invariant_of-self g c =
    let w = held_with c.self.inside.time c.self.inside.hall c.self.inside.connections.items in
    let line = subst (λ (x : Held). is_line x.basis.site c.args.by ≡ true) (sym c.self.view_is) c.requires in
    let f = found w _ c.args.by c.place-place.result c.index_mut-connection.result.now c.self.view_is c.place-place.ensures.place c.place-place.ensures.there c.index_mut-connection.ensures.value in
    sound_exchanged w c.args.by c.place-place.result _ c.take.new.self f c.self.invariant line c.take.ensures.connected

pub returns-clause-takes : goal.returns-clause-takes
returns-clause-takes g c =
    let w = held_with c.self.inside.time c.self.inside.hall c.self.inside.connections.items in
    let f = found w _ c.args.by c.place-place.result c.index_mut-connection.result.now c.self.view_is c.place-place.ensures.place c.place-place.ensures.there c.index_mut-connection.ensures.value in
    subst (λ (x : Held). IfOk c.take.result (λ t. Takes c.args.by x c.args.piece.now t.entries.items t.unposted t.why (record w { connections = set w.connections c.place-place.result c.take.new.self }))) c.self.view_is
    (takes_is w c.args.by c.place-place.result _ c.take.new.self f (λ t. t.entries.items) (λ t. t.unposted) (λ t. t.why) c.take.result c.args.piece.now c.take.ensures.connected c.take.ensures.cursor c.take.ensures.ok)

pub returns-clause-unmoved : goal.returns-clause-unmoved
returns-clause-unmoved g c =
    let w = held_with c.self.inside.time c.self.inside.hall c.self.inside.connections.items in
    subst (λ (x : Held). IsUnmoved x (record w { connections = set w.connections c.place-place.result c.take.new.self })) c.self.view_is (record { history = refl; time = refl; basis = refl })
