use Rattle.std.proofs.Common.{List, length, sym, ◌∙◌, ap, subst}
use Rattle.cts_core.specs.Environments.{basis_of}
use Rattle.cts_entry.specs.declared.entry.Entry.{Entry}
use Rattle.cts_run.specs.Story.{Stands}
use Rattle.cts_run.proofs.StoryLemmas.{done_tells, refused_tells}
use Rattle.cts_run.proofs.story.Story.tell.Goals.{in-Ok+in-Ok-told, in-Ok+in-Err-told, in-Err}
use Rattle.cts_run.proofs.story.Story.tell.Goals as goal

pub returns : goal.returns
returns g c = λ site s h0.
    let h = subst (Stands site s) (sym c.self.view_is) h0 in
    elim c.match-step.branch [
      | in-Ok+in-Ok-told w ↦
          let r = w.in-Ok.ensures.step (basis_of site) s h.going h.passed h.represents in
          rw w.result-is (done_tells site s c.args.event.now _ c.step.new.self w.in-Ok.effect h r (w.in-Ok.ensures.log s h.passed) (w.in-Ok.ensures.lasts h.going) c.count-before.result w.hall-hall.result.now.entries w.hall-hall.result.now.basis _
          (c.count-before.ensures ∙ ap (λ (t : List Entry). length t) c.hall.ensures.entries) w.hall-hall.ensures.entries w.hall-hall.ensures.basis (w.of.ensures ∙ w.in-Ok-told.ensures))
      | in-Ok+in-Err-told w ↦ rw w.result-is tt
      | in-Err w ↦ rw w.result-is (refused_tells site s c.args.event.now _ c.step.new.self w.in-Err.fault h (w.in-Err.ensures.step (basis_of site) s h.going h.passed h.represents) (w.in-Err.ensures.log s h.passed) (w.in-Err.ensures.lasts h.going))
    ]
