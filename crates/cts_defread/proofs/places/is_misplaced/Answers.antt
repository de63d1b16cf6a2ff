use Rattle.std.proofs.Common.{refl, ◌∙◌, w32, rules}
use Rattle.std.specs.Int.{w128}
use Rattle.std.proofs.lemmas.Int.{to_z-of_z}
use Rattle.cts_defread.proofs.Misplaced.{same_place}
use Rattle.cts_defread.proofs.places.is_misplaced.Goals as goal

pub returns-in-Some-Some : goal.returns-in-Some-Some
returns-in-Some-Some c =
    c.is_misplaced_near.ensures
    ∙ same_place c.args.kind c.args.order c.args.order _ c.args.offset _ c.args.size refl
    (to_z-of_z w32 c.in-Some-Some.offset (search rules) ∙ c.in-Some-Some.ensures ∙ to_z-of_z w128 c.args.offset c.ranges.offset)
    (to_z-of_z w32 c.in-Some-Some.size (search rules) ∙ c.in-Some-Some.ensures' ∙ to_z-of_z w128 c.args.size c.ranges.size)
