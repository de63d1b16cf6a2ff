use Rattle.std.proofs.Common.{List, ℕ, subst, rules}
use Rattle.std.specs.List.{IsDistinct}
use Rattle.cts_def.specs.Items.{is_same}
use Rattle.cts_monitor.specs.Sets.{known_sets}
use Rattle.cts_monitor.proofs.SetSteps.{are_known, as_long}
use Rattle.cts_monitor.proofs.laws.known_sets_stand_once.Goals as goal

pub returns : goal.returns
returns c = λ h.
    let apart = subst (λ (names : List (List ℕ)). IsDistinct is_same names) (search rules) c.site-inside.invariant.sets in
    let here = are_known c.args.site.now h apart in
    (here, λ sets known. as_long c.args.site.now h sets (known_sets c.args.site.now h) known here)
