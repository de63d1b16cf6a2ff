use Rattle.std.proofs.Common.{sym, subst}
use Rattle.cts_core.specs.Environments.{basis_of}
use Rattle.cts_run.specs.Story.{Stands}
use Rattle.cts_run.proofs.StoryLemmas.{moved}
use Rattle.cts_run.proofs.story.Story.step.Goals as goal

pub returns : goal.returns
returns g c = λ site s h0.
    let h = subst (Stands site s) (sym c.self.view_is) h0 in
    moved site s c.args.event.now (record { world = c.self.inside.world }) c.step.new.self c.step.result (c.step.ensures.step (basis_of site) s h.going h.passed h.represents) (c.step.ensures.log s h.passed) (c.step.ensures.lasts h.going)
