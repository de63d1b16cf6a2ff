use Rattle.std.proofs.Common.{rules, find, ap, ◌∙◌}
use Rattle.cts_defstatement.specs.declared.cause.DefCause.{DefCause}
use Rattle.cts_defstatement.specs.Refusals.{holds}
use Rattle.cts_defstatement.proofs.refusal.first_cause.Goals as goal

pub returns : goal.returns
returns c =
    let test : DefCause → _ = λ cause. holds cause c.args.opened c.args.keyword c.args.words.now in
    c.first_that_holds.ensures test (λ cause held post. search rules) ∙ ap (find test) c.causes.ensures
