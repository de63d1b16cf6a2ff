use Rattle.std.proofs.Common.{List, length, sym, ◌∙◌, ap, subst, arith}
use Rattle.cts_core.specs.Endings.{held_in}
use Rattle.cts_core.specs.Environments.{basis_of}
use Rattle.cts_entry.specs.declared.entry.Entry.{Entry}
use Rattle.cts_run.specs.Story.{Stands}
use Rattle.cts_run.proofs.StoryLemmas.{rest_drains}
use Rattle.cts_run.proofs.story.Story.drain.Goals as goal

pub returns : goal.returns
returns g c = λ site s h0.
    let h = subst (Stands site s) (sym c.self.view_is) h0 in
    rest_drains site s _ (held_in c.step-done.new.self) c.count-count.result c.saturating_sub-rest.result c.step-done.result (c.count-count.ensures ∙ ap (λ (t : List Entry). length t) (c.hall.ensures.entries ∙ h.represents.history))
    (omega (arith, c.saturating_sub-rest.ensures, c.log_cursor.ensures, h.passed)) (c.step-done.ensures.step (basis_of site) s h.going h.passed h.represents)
