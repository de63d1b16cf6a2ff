use Rattle.cts_plan.proofs.completing.router_of.Goals as goal

pub invariant_of-result : goal.invariant_of-result
invariant_of-result c = record { port = c.draft.invariant.port; chain = c.in_ok-chain.ensures.sound; routes = c.draft.invariant.routes }
