use Rattle.std.proofs.Common.{sym, subst, set}
use Rattle.cts_core.specs.Takings.{Begins, IsShut, told_as}
use Rattle.cts_core.specs.Worlds.{Held, held_with}
use Rattle.cts_core.proofs.Exchanging.{begins_is, found}
use Rattle.cts_core.proofs.Following.{none_ended}
use Rattle.cts_core.proofs.Holding.{sound_begins}
use Rattle.cts_core.proofs.running.Running.begin.Goals as goal

pub place-place-requires : goal.place-place-requires
place-place-requires g c = c.requires.line

pub open-requires : goal.open-requires
open-requires g c =
    let w = held_with c.self.inside.time c.self.inside.hall c.self.inside.connections.items in
    let is : IsShut w c.args.by = subst (λ (x : Held). IsShut x c.args.by) (sym c.self.view_is) c.requires in
    record { line = is.line; off = is.off; going = is.going; active = none_ended c.args.by w.history c.self.invariant.lasting }

pub invariant_of-self : goal.invariant_of-self
invariant_of-self g c =
    let w = held_with c.self.inside.time c.self.inside.hall c.self.inside.connections.items in
    let is : IsShut w c.args.by = subst (λ (x : Held). IsShut x c.args.by) (sym c.self.view_is) c.requires in
    let f = found w _ c.args.by c.place-place.result c.index_mut-connection.result.now c.self.view_is c.place-place.ensures.place c.place-place.ensures.there c.index_mut-connection.ensures.value in
    sound_begins w _ c.args.by _ c.self.invariant is (begins_is w.time c.self.inside.hall c.open.new.hall w.connections c.args.by c.place-place.result _ c.open.new.self f c.open.result c.open.ensures)

pub returns : goal.returns
returns g c =
    let w = held_with c.self.inside.time c.self.inside.hall c.self.inside.connections.items in
    let f = found w _ c.args.by c.place-place.result c.index_mut-connection.result.now c.self.view_is c.place-place.ensures.place c.place-place.ensures.there c.index_mut-connection.ensures.value in
    let done = begins_is w.time c.self.inside.hall c.open.new.hall w.connections c.args.by c.place-place.result _ c.open.new.self f c.open.result c.open.ensures in
    rw c.told_as.ensures (subst (λ (x : Held). Begins c.args.by x (told_as c.open.result) (held_with w.time c.open.new.hall (set w.connections c.place-place.result c.open.new.self))) c.self.view_is done)
