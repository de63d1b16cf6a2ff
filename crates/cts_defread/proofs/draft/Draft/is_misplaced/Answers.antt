use Rattle.std.proofs.Common.{◌∙◌, rules}
use Rattle.std.specs.Int.{w128}
use Rattle.std.proofs.lemmas.Int.{to_z-of_z}
use Rattle.cts_defread.specs.Causes.{open_end, order_in}
use Rattle.cts_defread.specs.Standing.{offset_or}
use Rattle.cts_words.specs.Blocks.{last_of}
use Rattle.cts_defread.proofs.Misplaced.{same_place}
use Rattle.cts_defread.proofs.draft.Draft.is_misplaced.Goals as goal

pub returns : goal.returns
returns c =
    c.is_misplaced.ensures
    ∙ same_place c.args.head.now.kind c.order.result (order_in (last_of c.args.self.now.packets.items) c.args.head.now.order) _ (offset_or (open_end c.args.self.now.packets.items) c.args.head.now.offset) _ c.args.head.now.size c.order.ensures (to_z-of_z w128 c.offset.result (record { sfits = c.offset.type_inv }) ∙ c.offset.ensures) (to_z-of_z w128 c.args.head.now.size (search rules))
