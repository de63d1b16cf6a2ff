use Rattle.cts_defread.proofs.Finished.{made_sound}
use Rattle.cts_defread.proofs.draft.Draft.finish.Goals as goal

pub invariant_of-result : goal.invariant_of-result
invariant_of-result c = made_sound c.args.self _ _ _ c.requires.kept c.in_ok-telemetry.ensures.telemetry c.in_ok-telemetry.ensures.commands c.of.ensures
