use Rattle.std.proofs.Common.{rules, ◌≡◌, ◌++◌, List, sym, subst}
use Rattle.cts_entry.specs.declared.event.Event.{Event}
use Rattle.cts_run.specs.Rehearsal.{IsFar}
use Rattle.cts_run.specs.Story.{site_told}
use Rattle.cts_run.proofs.RehearsalLemmas.{begun}
use Rattle.cts_run.proofs.rehearse.do_choices.Goals as goal

pub choices-init : goal.choices-init
choices-init g c =
    subst (λ (t : List Event). IsFar (site_told c.args.story.now) c.args.number t 0 c.args.story.now) (sym c.new-rehearsal.ensures) (begun (site_told c.args.story.now) c.args.number c.args.story.now c.ranges.number.fits c.requires)

pub returns-in-Err : goal.returns-in-Err
returns-in-Err g c =
    let site = site_told c.args.story.now in
    let more : c.choices.rehearsal ≡ c.deref.result.now ++ c.next_events.new.self = search rules in
    c.in-Err.ensures site c.args.number c.next_events.new.self (subst (λ (t : List Event). IsFar site c.args.number t c.choices.refused c.choices.story) more c.choices.invariant)
