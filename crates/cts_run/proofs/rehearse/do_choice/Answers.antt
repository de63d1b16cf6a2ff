use Rattle.std.proofs.Common.{rules, ◌≡◌, ℕ, ◌+◌, ◌∷◌, ◌++◌, List, ap, subst, arith}
use Rattle.cts_entry.specs.declared.event.Event.{Event}
use Rattle.cts_run.specs.Rehearsal.{IsFar}
use Rattle.cts_run.proofs.RehearsalLemmas.{counted, goes_on, one_more, stops}
use Rattle.cts_run.proofs.rehearse.do_choice.Goals as goal

pub step-requires : goal.step-requires
step-requires g c =
    let k = c.requires in
    let p = c.events.invariant k.0 k.1 k.2 k.3 in
    (k.0, p.state, p.goes)

pub overflow_add-refused : goal.overflow_add-refused
overflow_add-refused g c =
    let k = c.requires in
    let left : c.events.left.now ≡ c.in-Some.event.now ∷ c.in-Some.after.now = search rules in
    let p = subst (λ (t : List Event). IsFar k.0 k.1 (t ++ k.2) c.events.refused c.events.story) left (c.events.invariant k.0 k.1 k.2 k.3) in
    omega (arith, counted k.0 k.1 c.in-Some.event.now (c.in-Some.after.now ++ k.2) c.events.refused c.events.story p, c.refusals-refused.ensures, one_more c.in-Ok.effect)

pub events-preserved : goal.events-preserved
events-preserved g c = λ site n more k.
    let left : c.events.left.now ≡ c.in-Some.event.now ∷ c.in-Some.after.now = search rules in
    let p = subst (λ (t : List Event). IsFar site n (t ++ more) c.events.refused c.events.story) left (c.events.invariant site n more k) in
    goes_on site n c.in-Some.event.now (c.in-Some.after.now ++ more) c.events.refused (c.events.refused + c.refusals-refused.result) c.in-Ok.effect c.events.story c.step.new.self p (c.in-Ok.ensures site p.state p.goes)
    (ap (λ (m : ℕ). c.events.refused + m) c.refusals-refused.ensures)

pub returns-in-Err : goal.returns-in-Err
returns-in-Err g c = λ site n more k.
    let left : c.events.left.now ≡ c.in-Some.event.now ∷ c.in-Some.after.now = search rules in
    let p = subst (λ (t : List Event). IsFar site n (t ++ more) c.events.refused c.events.story) left (c.events.invariant site n more k) in
    rw c.event_halt.ensures (rw c.rehearsal_name.ensures (stops site n c.in-Some.event.now (c.in-Some.after.now ++ more) c.events.refused c.events.story c.step.new.self c.in-Err.fault p (c.in-Err.ensures site p.state p.goes)))
