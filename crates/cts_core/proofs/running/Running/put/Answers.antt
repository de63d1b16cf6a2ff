use Rattle.std.proofs.Common.{◌≡◌, ◌≤◌, true, length, refl, sym, subst, set, Result, Ok, Err, OnErr}
use Rattle.std.specs.Prelude.{IfOk}
use Rattle.cts_connection.specs.Connections.{HeldConnection, entries_ahead}
use Rattle.cts_connection.specs.LinePlaces.{is_line}
use Rattle.cts_core.specs.Worlds.{Held, IsUnmoved, held_with}
use Rattle.cts_core.specs.Writings.{PutsNext, ahead_in}
use Rattle.cts_core.proofs.Exchanging.{connection_is, found, puts_is, sound_exchanged, wrote_stands}
use Rattle.cts_core.proofs.running.Running.put.Goals as goal

refused : {T E P : Type 0} (result : Result T E) → P → OnErr result P
refused (Ok t) p = tt
refused (Err e) p = p

pub write-requires : goal.write-requires
write-requires g c =
    let w = held_with c.self.inside.time c.self.inside.hall c.self.inside.connections.items in
    let f = found w _ c.args.by c.place-place.result c.index_mut-connection.result.now c.self.view_is c.place-place.ensures.place c.place-place.ensures.there c.index_mut-connection.ensures.value in
    let within = subst (λ (x : Held). c.args.next ≤ length (ahead_in x c.args.by)) (sym c.self.view_is) c.requires.within in
    record { within = subst (λ (x : HeldConnection). c.args.next ≤ length (entries_ahead x w.history)) (connection_is w c.args.by c.place-place.result _ f) within }

pub invariant_of-self : goal.invariant_of-self
invariant_of-self g c =
    let w = held_with c.self.inside.time c.self.inside.hall c.self.inside.connections.items in
    let line = subst (λ (x : Held). is_line x.basis.site c.args.by ≡ true) (sym c.self.view_is) c.requires.line in
    let f = found w _ c.args.by c.place-place.result c.index_mut-connection.result.now c.self.view_is c.place-place.ensures.place c.place-place.ensures.there c.index_mut-connection.ensures.value in
    sound_exchanged w c.args.by c.place-place.result _ c.write.new.self f c.self.invariant line
    (wrote_stands w c.args.by c.place-place.result _ c.write.new.self f (λ v. v.items) c.write.result _ _ c.args.next c.write.ensures.ok c.write.ensures.err)

pub returns-clause-ok : goal.returns-clause-ok
returns-clause-ok g c =
    let w = held_with c.self.inside.time c.self.inside.hall c.self.inside.connections.items in
    let f = found w _ c.args.by c.place-place.result c.index_mut-connection.result.now c.self.view_is c.place-place.ensures.place c.place-place.ensures.there c.index_mut-connection.ensures.value in
    subst (λ (x : Held). IfOk c.write.result (λ b. PutsNext c.args.by x c.args.next b.items (record w { connections = set w.connections c.place-place.result c.write.new.self }))) c.self.view_is
    (puts_is w c.args.by c.place-place.result _ c.write.new.self f (λ v. v.items) c.write.result c.args.next c.write.ensures.ok)

pub returns-clause-err : goal.returns-clause-err
returns-clause-err g c =
    let w = held_with c.self.inside.time c.self.inside.hall c.self.inside.connections.items in
    refused c.write.result (subst (λ (x : Held). IsUnmoved x (record w { connections = set w.connections c.place-place.result c.write.new.self })) c.self.view_is (record { history = refl; time = refl; basis = refl }))
