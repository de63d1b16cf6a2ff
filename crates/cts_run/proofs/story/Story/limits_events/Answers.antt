use Rattle.std.proofs.Common.{◌≡◌, List, length, ◌∙◌, ap, subst}
use Rattle.cts_core.specs.Endings.{held_in}
use Rattle.cts_entry.specs.declared.entry.Entry.{Entry}
use Rattle.cts_run.specs.Story.{StoryData, site_told}
use Rattle.cts_table.specs.declared.basis.Basis.{Basis}
use Rattle.cts_monitor.specs.Events.{events}
use Rattle.cts_run.proofs.StoryLemmas.{all_from}
use Rattle.cts_run.proofs.story.Story.limits_events.Goals as goal

pub returns : goal.returns
returns g c =
    let hall = c.hall.result.now in
    subst (λ (t : StoryData). length c.as_slice.result.now ≡ length (events (site_told t) (held_in t.world).history)) c.self.view_is
    (ap length
    (c.as_slice.ensures.value
    ∙ (c.in_ok-changes.ensures
    ∙ (all_from (events hall.basis.site hall.entries)
    ∙ (ap (λ (b : Basis). events b.site hall.entries) c.hall.ensures.basis ∙ ap (λ (h : List Entry). events (held_in c.self.inside.world).basis.site h) c.hall.ensures.entries)))))
