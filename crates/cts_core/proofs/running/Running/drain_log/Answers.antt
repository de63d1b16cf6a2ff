use Rattle.std.proofs.Common.{sym, subst}
use Rattle.cts_entry.specs.declared.event.Event.TheVariants.{DrainLog}
use Rattle.cts_core.specs.Worlds.{Held, RepresentsWithin, Steps, held_with}
use Rattle.cts_core.proofs.PassingSteps.{drained_logs}
use Rattle.cts_core.proofs.running.Running.drain_log.Goals as goal

pub returns-clause-step : goal.returns-clause-step
returns-clause-step g c =
    let w = held_with c.self.inside.time c.self.inside.hall c.self.inside.connections.items in
    λ base s at h0.
    let h = subst (λ (x : Held). RepresentsWithin base x s) (sym c.self.view_is) h0 in
    subst (λ (x : Held). Steps base s (DrainLog c.args.count) x c.drain.result x) c.self.view_is (drained_logs base w s c.args.count c.args.logged at h c.drain.result c.drain.ensures.drains)
