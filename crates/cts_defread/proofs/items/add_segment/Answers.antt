use Rattle.cts_defread.proofs.Rules.{segment_kept}
use Rattle.cts_defread.proofs.items.add_segment.Goals as goal

pub invariant_of-item : goal.invariant_of-item
invariant_of-item c = segment_kept c.args.segment _ _ _ c.put_segment.result c.item.view_is c.item.invariant c.requires c.put_segment.ensures.added c.put_segment.ensures.unchanged
