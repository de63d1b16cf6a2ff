use Rattle.std.proofs.Common.{refl, ◌∙◌, w32}
use Rattle.std.proofs.lemmas.Int.{to_z-of_z}
use Rattle.cts_defread.proofs.Misplaced.{same_place}
use Rattle.cts_defread.proofs.places.is_misplaced_near.Goals as goal

pub returns : goal.returns
returns c =
    c.is_misplaced.ensures
    ∙ same_place c.args.kind c.args.order c.args.order _ c.args.offset _ c.args.size refl (to_z-of_z w32 c.args.offset c.ranges.offset) (to_z-of_z w32 c.args.size c.ranges.size)
