use Rattle.cts_defread.proofs.Rules.{limits_kept}
use Rattle.cts_defread.proofs.items.add_limits.Goals as goal

pub invariant_of-item : goal.invariant_of-item
invariant_of-item c = limits_kept c.args.line _ _ _ c.put_limits.result c.item.view_is c.item.invariant c.requires c.put_limits.ensures.added c.put_limits.ensures.unchanged
