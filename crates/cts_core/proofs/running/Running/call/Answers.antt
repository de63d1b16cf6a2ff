use Rattle.std.proofs.Common.{rules, ◌≡◌, true, false, refl, sym, ◌∙◌, subst}
use Rattle.std.specs.Prelude.{◌+◌, nat_lt}
use Rattle.cts_def.specs.Makers.{first_desk}
use Rattle.cts_entry.specs.declared.event.Event.TheVariants.{Call}
use Rattle.cts_api.specs.Points.{point_of}
use Rattle.cts_core.specs.Worlds.{Held, IsSoundHeld, RepresentsWithin, held_with}
use Rattle.cts_core.proofs.Following.{none_ended}
use Rattle.cts_core.proofs.Replying.{held_called, sound_called}
use Rattle.cts_core.proofs.WorldSteps.{called, has_desk_is, not_enabled}
use Rattle.cts_core.proofs.running.Running.call.Goals as goal

pub returns-then-not-has_desk : goal.returns-then-not-has_desk
returns-then-not-has_desk g c =
    let off : c.has_desk.result ≡ false = search rules in
    let w = c.args.self.now in
    λ base s h. not_enabled base w w s (Call c.args.desk c.args.body.now) c.has_desk.result (c.has_desk.ensures.test ∙ has_desk_is base w s c.args.desk c.args.body.now h) off refl h

pub reply-requires-clause-active : goal.reply-requires-clause-active
reply-requires-clause-active g c = none_ended (first_desk + c.args.desk) c.self.inside.hall.entries c.self.invariant.lasting

pub invariant_of-self-2 : goal.invariant_of-self-2
invariant_of-self-2 g c =
    let k = c.self.inside.hall in
    let w = held_with c.self.inside.time k c.self.inside.connections.items in
    let r = c.in-Ok.ensures.replied in
    subst IsSoundHeld (sym (held_called w.time k c.reply.new.hall w.connections r.0 c.in-Ok.answer.appended r.2.1)) (sound_called w (point_of k.basis k.entries) (first_desk + c.args.desk) w.time c.args.body.now r.0 r.1 c.self.invariant)

pub returns : goal.returns
returns g c =
    let k = c.self.inside.hall in
    let w = held_with c.self.inside.time k c.self.inside.connections.items in
    let r = c.in-Ok.ensures.replied in
    let there = subst (λ (x : Held). nat_lt c.args.desk x.basis.site.desks ≡ true) (sym c.self.view_is) (sym c.has_desk.ensures.test ∙ (search rules)) in
    let moved = held_called w.time k c.reply.new.hall w.connections r.0 c.in-Ok.answer.appended r.2.1 in
    λ base s h0.
    let h = subst (λ (x : Held). RepresentsWithin base x s) (sym c.self.view_is) h0 in
    called base w _ s c.args.desk c.args.body.now c.count-front.result c.in-Ok.answer.text r.0 there c.count-front.ensures r.2.0 r.1 moved h
