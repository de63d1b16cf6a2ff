use Rattle.std.proofs.Common.{rules, ◌≡◌, ◌∷◌, ◌++◌, [], ℕ, List, length, refl, subst, arith}
use Rattle.cts_entry.specs.declared.event.Event.{Event}
use Rattle.cts_run.specs.Replay.{event_acts}
use Rattle.cts_run.specs.Story.{site_told}
use Rattle.cts_run.proofs.ActLemmas.{done_then}
use Rattle.cts_run.proofs.ReplayLemmas.{IsProgress, begun, ends_so, goes_on, halts}
use Rattle.cts_run.proofs.replay.do_events.Goals as goal

pub events-init : goal.events-init
events-init g c = ([], begun (site_told c.args.story.now) c.args.events.now c.args.story.now c.requires, refl)

pub events-preserved : goal.events-preserved
events-preserved g c =
    let site = site_told c.args.story.now in
    let so_far = c.events.invariant in
    let left : c.events.left.now ≡ c.in-Some.next.now ∷ c.in-Some.after.now = search rules in
    let progress = subst (λ (t : List (ℕ × Event)). IsProgress site c.args.events.now t c.events.story so_far.0) left so_far.1 in
    let did = c.in-Ok.ensures site progress.state progress.stands in
    let acts = event_acts site progress.state.history did.0 in (
      so_far.0 ++ acts,
      goes_on site c.args.events.now c.in-Some.after.now c.in-Some.next.now c.events.story c.do_event.new.story so_far.0 progress did.0 did.1 did.2,
      done_then _ _ _ so_far.0 acts so_far.2 did.3,
    )

pub returns-in-Err : goal.returns-in-Err
returns-in-Err g c =
    let site = site_told c.args.story.now in
    let so_far = c.events.invariant in
    let left : c.events.left.now ≡ c.in-Some.next.now ∷ c.in-Some.after.now = search rules in
    let progress = subst (λ (t : List (ℕ × Event)). IsProgress site c.args.events.now t c.events.story so_far.0) left so_far.1 in
    halts site c.args.script.now c.args.events.now c.in-Some.after.now c.in-Some.next.now c.events.story c.do_event.new.story so_far.0 progress _ _ _ c.in-Err.halt so_far.2 (c.in-Err.ensures site progress.state progress.stands)

none_left : (xs : List (ℕ × Event)) → length xs ≡ 0 → xs ≡ []
none_left [] h = refl
none_left (x ∷ xs) h = absurd (omega (arith, h))

pub returns : goal.returns
returns g c =
    let site = site_told c.args.story.now in
    let so_far = c.events.invariant in
    let progress = subst (λ (t : List (ℕ × Event)). IsProgress site c.args.events.now t c.events.story so_far.0) (none_left c.events.left.now c.in_default.ensures.cases) so_far.1 in
    ends_so site c.args.script.now c.args.events.now c.events.story so_far.0 progress c.end_replay.result _ _ _ so_far.2 (c.end_replay.ensures site progress.state progress.stands)

pub do_event-requires : goal.do_event-requires
do_event-requires g c =
    let so_far = c.events.invariant in
    (site_told c.args.story.now, so_far.1.state, so_far.1.stands)

pub end_replay-requires : goal.end_replay-requires
end_replay-requires g c =
    let so_far = c.events.invariant in
    (site_told c.args.story.now, so_far.1.state, so_far.1.stands)
