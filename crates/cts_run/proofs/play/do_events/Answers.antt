use Rattle.std.proofs.Common.{rules, ◌≡◌, ◌∷◌, ◌++◌, [], false, List, length, refl, sym, ◌∙◌, ap, subst, arith, append_assoc}
use Rattle.std.proofs.lemmas.List.{append-nil}
use Rattle.cts_entry.specs.declared.event.Event.{Event}
use Rattle.cts_run.specs.Acts.{outside}
use Rattle.cts_run.specs.Play.{IsPlaying, Stops}
use Rattle.cts_run.proofs.PlayLemmas.{stops_on}
use Rattle.cts_run.proofs.play.do_events.Goals as goal

pub events-init : goal.events-init
events-init g c = λ site before old vault p.
    ([], refl, subst (λ (es : List Event). IsPlaying site es false c.args.story.now old (outside (g.O.Sink.seen c.args.out.now) vault)) (sym (append-nil before)) p)

pub do_event-requires : goal.do_event-requires
do_event-requires g c =
    let k = c.requires in
    let n = c.events.invariant k.0 k.1 k.2 k.3 k.4 in
    (k.0, n.2.state, n.2.stands)

pub events-preserved : goal.events-preserved
events-preserved g c = λ site before old vault p.
    let n = c.events.invariant site before old vault p in
    let event = c.in-Some.event.now in
    let left : c.events.left.now ≡ c.in-Some.event.now ∷ c.in-Some.after.now = search rules in (
      n.0 ++ event ∷ [],
      append_assoc n.0 (event ∷ []) c.in-Some.after.now ∙ (ap (λ (t : List Event). n.0 ++ t) (sym left) ∙ n.1),
      subst (λ (es : List Event). IsPlaying site es c.in-Ok.now c.do_event.new.story old (outside (g.O.Sink.seen c.do_event.new.out) vault)) (append_assoc before n.0 (event ∷ []))
          (c.in-Ok.ensures site (before ++ n.0) old vault n.2),
    )

pub returns-in-Err : goal.returns-in-Err
returns-in-Err g c = λ site before old vault p.
    let n = c.events.invariant site before old vault p in
    let event = c.in-Some.event.now in
    let left : c.events.left.now ≡ c.in-Some.event.now ∷ c.in-Some.after.now = search rules in
    let all : ((before ++ n.0) ++ event ∷ []) ++ c.in-Some.after.now ≡ before ++ c.args.events.now =
    append_assoc (before ++ n.0) (event ∷ []) c.in-Some.after.now
    ∙ (append_assoc before n.0 (event ∷ c.in-Some.after.now) ∙ ap (λ (t : List Event). before ++ t) (ap (λ (t : List Event). n.0 ++ t) (sym left) ∙ n.1)) in
    subst (λ (es : List Event). Stops site es c.in-Err.halt old (outside (g.O.Sink.seen c.do_event.new.out) vault)) all
    (stops_on site ((before ++ n.0) ++ event ∷ []) c.in-Some.after.now c.in-Err.halt old _ (c.in-Err.ensures site (before ++ n.0) old vault n.2))

none_left : (xs : List Event) → length xs ≡ 0 → xs ≡ []
none_left [] h = refl
none_left (x ∷ xs) h = absurd (omega (arith, h))

pub returns : goal.returns
returns g c = λ site before old vault p.
    let n = c.events.invariant site before old vault p in
    let none : c.events.left.now ≡ [] = none_left c.events.left.now c.in_default.ensures.cases in
    let all : n.0 ≡ c.args.events.now = sym (append-nil n.0) ∙ (ap (λ (t : List Event). n.0 ++ t) (sym none) ∙ n.1) in
    subst (λ (t : List Event). IsPlaying site (before ++ t) c.events.over c.events.story old (outside (g.O.Sink.seen c.events.out) vault)) all n.2
