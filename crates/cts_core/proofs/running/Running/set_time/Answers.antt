use Rattle.std.proofs.Common.{rules, sym, ◌∙◌, subst}
use Rattle.std.proofs.lemmas.Bool.{ltb-true}
use Rattle.cts_core.specs.Worlds.{Held, RepresentsWithin, held_with}
use Rattle.cts_core.proofs.WorldSteps.{time_set}
use Rattle.cts_core.proofs.running.Running.set_time.Goals as goal

pub returns : goal.returns
returns g c =
    λ base s h. time_set base (held_with c.self.inside.time c.self.inside.hall c.self.inside.connections.items) s c.args.time (ltb-true c.args.time.micros 1000000 (sym c.is_of_clock.ensures ∙ (search rules))) (subst (λ (x : Held). RepresentsWithin base x s) (sym c.self.view_is) h)
