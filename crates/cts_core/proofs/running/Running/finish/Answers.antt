use Rattle.std.proofs.Common.{rules, ◌≡◌, true, false, refl, sym, ◌∙◌}
use Rattle.cts_entry.specs.declared.event.Event.TheVariants.{Finish}
use Rattle.cts_core.specs.States.{may_close}
use Rattle.cts_core.proofs.Holding.{is_open}
use Rattle.cts_core.proofs.Following.{stops_after}
use Rattle.cts_core.proofs.WorldSteps.{finished, may_finish_is, not_enabled, site_of}
use Rattle.cts_core.proofs.running.Running.finish.Goals as goal

pub returns-then-not-may_finish : goal.returns-then-not-may_finish
returns-then-not-may_finish g c =
    let off : c.may_finish.result ≡ false = search rules in
    let w = c.args.self.now in
    λ base s h. not_enabled base w w s (Finish c.args.by c.args.why) c.may_finish.result (c.may_finish.ensures.test ∙ may_finish_is base w s c.args.by c.args.why h) off refl h

pub close-requires-clause-line : goal.close-requires-clause-line
close-requires-clause-line g c = (is_open c.args.self.now c.args.by (may_close c.args.self.now.history c.args.why) c.may_finish.ensures.sound (sym c.may_finish.ensures.test ∙ (search rules))).line

pub close-requires-clause-connected : goal.close-requires-clause-connected
close-requires-clause-connected g c = (is_open c.args.self.now c.args.by (may_close c.args.self.now.history c.args.why) c.may_finish.ensures.sound (sym c.may_finish.ensures.test ∙ (search rules))).flag

pub close-requires-clause-stops : goal.close-requires-clause-stops
close-requires-clause-stops g c =
    stops_after c.args.self.now.history c.args.why (is_open c.args.self.now c.args.by (may_close c.args.self.now.history c.args.why) c.may_finish.ensures.sound (sym c.may_finish.ensures.test ∙ (search rules))).passes

pub returns : goal.returns
returns g c =
    let on : c.may_finish.result ≡ true = search rules in
    let w = c.args.self.now in
    λ base s h.
    finished base w _ s c.args.by c.args.why (site_of base w s c.may_finish.ensures.sound h) c.close.ensures
    (sym (may_finish_is base w s c.args.by c.args.why h) ∙ (sym c.may_finish.ensures.test ∙ on)) h
