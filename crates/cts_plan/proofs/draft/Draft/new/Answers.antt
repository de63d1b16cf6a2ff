use Rattle.cts_plan.proofs.Kept.{empty_site}
use Rattle.cts_plan.proofs.draft.Draft.new.Goals as goal

pub invariant_of-result : goal.invariant_of-result
invariant_of-result c = empty_site c.args.definitions c.new.result c.new-2.result c.new.ensures c.new-2.ensures
