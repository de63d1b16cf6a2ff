use Rattle.std.proofs.Common.{sym}
use Rattle.cts_run.proofs.TyingLemmas.{misuse_gives, ties_give}
use Rattle.cts_run.proofs.hub.tying.tie_both.Goals as goal

pub returns-in-Some : goal.returns-in-Some
returns-in-Some c = ties_give c.args.above.now c.args.below.now c.args.tie.now c.in-Some.ends c.tie_ends.result (sym c.in-Some.ensures.named) c.in-Some.ensures.least c.in-Some.ensures.most c.tie_ends.ensures

pub returns-in-None : goal.returns-in-None
returns-in-None c = misuse_gives c.args.above.now c.args.below.now c.args.tie.now (sym c.in-None.ensures.named)
