use Rattle.std.proofs.Common.{rules, find, ap, ◌∙◌}
use Rattle.cts_scriptread.specs.declared.cause.ScriptCause.{ScriptCause}
use Rattle.cts_scriptread.specs.Causes.{holds}
use Rattle.cts_scriptread.proofs.judging.first_cause.Goals as goal

pub returns : goal.returns
returns c =
    let test : ScriptCause → _ = λ cause. holds c.args.site.now cause c.args.keyword c.args.words.now in
    c.first_that_holds.ensures test (λ cause held post. search rules) ∙ ap (find test) c.causes.ensures
