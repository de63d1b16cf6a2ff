use Rattle.std.proofs.Common.{rules, ◌≡◌, not, true, false, refl, sym, ◌∙◌, ap, subst}
use Rattle.cts_entry.specs.declared.event.Event.TheVariants.{Stop}
use Rattle.cts_entry.specs.Histories.{is_stopped}
use Rattle.cts_table.specs.States.{Shown}
use Rattle.cts_core.specs.Worlds.{Held, IsSoundHeld, RepresentsWithin, held_with}
use Rattle.cts_core.proofs.Holding.{can_stop, sound_stopped}
use Rattle.cts_core.proofs.WorldSteps.{not_enabled, stopped}
use Rattle.cts_core.proofs.running.Running.stop.Goals as goal

pub returns-then-stopped : goal.returns-then-stopped
returns-then-stopped g c =
    let on : c.stopped.result ≡ true = search rules in
    let w = held_with c.self.inside.time c.self.inside.hall c.self.inside.connections.items in
    λ base s h0.
    let h = subst (λ (x : Held). RepresentsWithin base x s) (sym c.self.view_is) h0 in
    not_enabled base _ _ s Stop (not c.stopped.result) (ap not (c.stopped.ensures.value ∙ ap is_stopped h.history)) (ap not on) refl h0

pub stop-requires : goal.stop-requires
stop-requires g c = can_stop c.self.inside.hall c.self.inside.time (sym c.stopped.ensures.value ∙ (search rules)) c.self.invariant.lasting

pub invariant_of-self : goal.invariant_of-self
invariant_of-self g c =
    subst (λ (k : Shown). IsSoundHeld (held_with c.self.inside.time k (held_with c.self.inside.time c.self.inside.hall c.self.inside.connections.items).connections)) (sym c.stop.ensures) (sound_stopped (held_with c.self.inside.time c.self.inside.hall c.self.inside.connections.items) c.self.inside.time c.self.invariant)

pub returns : goal.returns
returns g c =
    let w = held_with c.self.inside.time c.self.inside.hall c.self.inside.connections.items in
    let off : c.stopped.result ≡ false = search rules in
    let done = ap (λ (k : Shown). held_with w.time k w.connections) c.stop.ensures in
    λ base s h. stopped base w _ s (sym c.stopped.ensures.value ∙ off) done (subst (λ (x : Held). RepresentsWithin base x s) (sym c.self.view_is) h)
