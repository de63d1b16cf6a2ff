use Rattle.std.proofs.Common.{rules, find, ap, ◌∙◌}
use Rattle.cts_defstatement.specs.declared.cause.DefCause.{DefCause}
use Rattle.cts_defread.specs.Causes.{holds}
use Rattle.cts_defread.proofs.draft.Draft.first_cause.Goals as goal

pub returns : goal.returns
returns c =
    let test : DefCause → _ = λ cause. holds cause c.args.self.now.packets.items c.args.self.now.set_names.items c.args.line.now in
    c.first_that_holds.ensures test (λ cause held post. search rules) ∙ ap (find test) c.causes.ensures
