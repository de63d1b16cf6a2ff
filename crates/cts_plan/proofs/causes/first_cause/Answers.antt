use Rattle.std.proofs.Common.{rules, find, ap, ◌∙◌}
use Rattle.cts_plan.specs.declared.fault.SiteCause.{SiteCause}
use Rattle.cts_plan.specs.Causes.{holds}
use Rattle.cts_plan.proofs.causes.first_cause.Goals as goal

pub returns : goal.returns
returns c =
    let test : SiteCause → _ = λ cause. holds cause c.args.draft.now c.args.keyword c.args.words.now c.args.line.now in
    c.first_that_holds.ensures test (λ cause held post. search rules) ∙ ap (find test) c.causes.ensures
