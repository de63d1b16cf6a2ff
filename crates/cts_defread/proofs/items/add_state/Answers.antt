use Rattle.cts_defread.proofs.Rules.{state_kept}
use Rattle.cts_defread.proofs.items.add_state.Goals as goal

pub invariant_of-item : goal.invariant_of-item
invariant_of-item c = state_kept c.args.state _ _ _ c.push.result c.item.view_is c.item.invariant c.requires c.push.ensures.pushed c.push.ensures.unchanged
