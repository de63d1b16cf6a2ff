use Rattle.std.proofs.Common.{◌≡◌, ◌∙◌, Option, sym, subst, rules}
use Rattle.std.specs.List.{flat_map}
use Rattle.std.specs.Option.{option_or}
use Rattle.cts_base.specs.Names.{in_upper_case}
use Rattle.cts_def.specs.declared.limits_setup.LimitsSetup.{LimitsSetup}
use Rattle.cts_entry.specs.Histories.{latest}
use Rattle.cts_monitor.specs.Places.{limits_at}
use Rattle.cts_monitor.specs.Settings.{limits_in, sets_told, sets_with}
use Rattle.cts_monitor.proofs.PlaceSteps.{limits_at_places}
use Rattle.cts_monitor.proofs.places.Places.limits.Goals as goal

pub returns-in-Some : goal.returns-in-Some
returns-in-Some g c =
    let set = in_upper_case c.args.set.now in
    let found = limits_at_places set c.args.packet c.args.item c.in-Some.setup.sets (g.H.Stands.list c.args.history.now) c.args.self.now.given c.requires in
    let here : c.or.result ≡ option_or (latest (limits_at (g.H.Stands.list c.args.history.now) set c.args.packet c.args.item) c.args.self.now.given) (limits_in set c.in-Some.setup.sets) = search rules in
    subst (λ (o : Option LimitsSetup). c.or.result ≡ limits_in set (sets_with o (flat_map (sets_told c.args.packet c.args.item) (g.H.Stands.list c.args.history.now)))) (sym c.in-Some.is) (here ∙ sym found)
