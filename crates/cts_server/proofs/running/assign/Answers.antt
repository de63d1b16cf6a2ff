use Rattle.std.proofs.Common.{rules, arith, length, ◌≡◌, ℕ, ◌<◌, ◌++◌, List, [], ◌∷◌, true, false, map, sym, ap, subst, ◌∙◌, refl, eq-eqb, ◌||◌, Bool}
use Rattle.std.specs.List.{AllByRecursion, AllZip}
use Rattle.std.proofs.lemmas.Grind.{common_steps, flat_map-append}
use Rattle.std.proofs.lemmas.List.{append-nil, map-append}
use Rattle.cts_server.specs.Tasks.{Rising}
use Rattle.cts_turn.specs.Lists.{has}
use Rattle.cts_trace.specs.Makers.{of_maker}
use Rattle.cts_worker.specs.Grounds.{ground}
use Rattle.cts_turn.specs.Passes.{view}
use Rattle.cts_turn.proofs.Makers.{split_from, has_left_part}
use Rattle.cts_server.proofs.Steps.{all_more, cover_job, cover_idle, next_is, rises_taken, rises_idle, none_rise, numbers_are, cover_all}
use Rattle.cts_outside.proofs.InOrder.{ended_more}
use Rattle.cts_server.proofs.running.assign.Goals as goal
use Rattle.cts_server.proofs.running.assign.Goals.{then-is_next, else-is_next}

pub split-one-requires-clause-two : goal.split-one-requires-clause-two
split-one-requires-clause-two g c =
    let k : ℕ = c.makers.by in
    let lt : k < 31 = c.makers-test.true in
    (split_from c.makers.pass.seat.me.0.makers k c.makers.invariant.makers lt).2

pub makers-init : goal.makers-init
makers-init g c =
    let none = c.requires.empty.0 in
    let no_idle = c.requires.empty.1 in
    let few : length c.args.jobs.now.items ≡ 0 = ap length none in
    let few_idle : length c.args.idle.now.items ≡ 0 = ap length no_idle in
    record {
      pass = c.requires.pass;
      makers = c.requires.makers;
      seen = c.requires.seen;
      rising = c.requires.rising;
      can = c.requires.can;
      jobs = ([], refl, rw none tt);
      ready = rw none tt;
      idle = rw no_idle tt;
      cover = λ m below. absurd (omega (arith, below));
      room = grind (arith, common_steps);
      idle_room = (grind (arith, common_steps), c.requires.room.1);
      task_room = grind (arith, common_steps);
    }

pub makers-preserved : goal.makers-preserved
makers-preserved g c =
    let k : ℕ = c.makers.by in
    let lt : k < 31 = c.makers-test.true in
    let kept = c.makers.invariant in
    let is = split_from c.makers.pass.seat.me.0.makers k kept.makers lt in
    let one = c.split-one.result in
    let one_is : one.seat.me.0.makers ≡ k ∷ [] = ap (λ v. v.makers) c.split-one.ensures.new ∙ ap (λ (n : ℕ). n ∷ []) is.1 in
    let makers = ap (λ v. v.makers) c.split-one.ensures.view ∙ is.0 in
    let seen = ap (λ v. v.seen) c.split-one.ensures.view ∙ kept.seen in
    let new_seen = ap (λ v. v.seen) c.split-one.ensures.new ∙ kept.seen in
    elim c.if-is_next.branch [
      | then-is_next w ↦
          let taken = w.take_first-by.ensures.items in
          let t = w.take_first-by.result in
          let by_is : t.by ≡ k = next_is k c.makers.tasks.items w.take_first-by.new.items.items t taken (search rules) in
          let pushed = w.push_reserved.ensures.items in
          let can = subst (λ (l : List _). AllByRecursion (λ t. g.U.Duty.can c.args.context.now.site.now t.work t.by
          (ground c.args.context.now.turn.now)) l) taken kept.can in
          rw w.tasks-is (rw w.jobs-is (rw w.idle-is (record {
            pass = c.split-one.ensures.pass.0;
            makers = makers;
            seen = seen;
            rising = rises_taken k c.makers.tasks.items w.take_first-by.new.items.items t taken kept.rising by_is;
            can = can.1;
            jobs = rw pushed (ended_more _ kept.jobs.0 _ _ _ _ _ _ kept.jobs.1 taken kept.jobs.2 (refl, refl, refl));
            ready = rw pushed (all_more _ _ _ kept.ready (
              c.split-one.ensures.pass.1,
              one_is ∙ ap (λ (n : ℕ). n ∷ []) (sym by_is),
              ap
                  (λ (l : List _). of_maker t.by l) new_seen,
              can.0,
            ));
            idle = kept.idle;
            cover = λ m below. rw pushed (rw (map-append (λ j. j.by) c.makers.jobs.items (_ ∷ [])) (cover_job k t.by _ _ by_is kept.cover m below));
            room = grind (arith, common_steps);
            idle_room = (omega (arith, kept.idle_room.0), kept.idle_room.1);
            task_room = rw w.take_first-by.ensures.room kept.task_room;
          })))
      | else-is_next w ↦
          let pushed = w.push_reserved-else-is_next.ensures.items in
          rw w.tasks-is (rw w.jobs-is (rw w.idle-is (record {
            pass = c.split-one.ensures.pass.0;
            makers = makers;
            seen = seen;
            rising = rises_idle k c.makers.tasks.items kept.rising (search rules);
            can = kept.can;
            jobs = kept.jobs;
            ready = kept.ready;
            idle = rw pushed (all_more _ _ _ kept.idle (c.split-one.ensures.pass.1, new_seen));
            cover = λ m below. rw pushed (rw (flat_map-append (λ p. (view p).makers) c.makers.idle.items (one ∷ []))
                (cover_idle k _ _ _ (has_left_part k one.seat.me.0.makers []
                (subst (λ (l : List ℕ). has k l ≡ true) (sym one_is) (ap (λ (b : Bool). b || false) (eq-eqb k k refl)))) kept.cover m below));
            room = kept.room;
            idle_room = (grind (arith, common_steps), grind (arith, common_steps));
            task_room = kept.task_room;
          })))
    ]

pub returns-clause-jobs : goal.returns-clause-jobs
returns-clause-jobs g c =
    let kept = c.makers.invariant in
    let none = none_rise c.makers.tasks.items (subst (λ (n : ℕ). Rising n c.makers.tasks.items)
    (omega (arith, c.makers-test.false, c.makers.auto.by-end)) kept.rising) in
    subst (λ (l : List _). AllZip (λ t j. (j.by ≡ t.by) × (j.work ≡ t.work) × (j.context.now ≡ c.args.context.now)) l c.makers.jobs.items)
    (sym (append-nil kept.jobs.0) ∙ ap (λ (l : List _). kept.jobs.0 ++ l) (sym none) ∙ kept.jobs.1) kept.jobs.2

pub returns-clause-none : goal.returns-clause-none
returns-clause-none g c = none_rise c.makers.tasks.items (subst (λ (n : ℕ). Rising n c.makers.tasks.items)
    (omega (arith, c.makers-test.false, c.makers.auto.by-end)) c.makers.invariant.rising)

pub returns-clause-cover : goal.returns-clause-cover
returns-clause-cover g c m below =
    let kept = c.makers.invariant in
    let k : ℕ = c.makers.by in
    let ended : k ≡ 31 = omega (arith, c.makers-test.false, c.makers.auto.by-end) in
    let none = none_rise c.makers.tasks.items (subst (λ (n : ℕ). Rising n c.makers.tasks.items) ended kept.rising) in
    let all : kept.jobs.0 ≡ c.args.tasks.now.items = sym (append-nil kept.jobs.0) ∙ ap (λ (l : List _). kept.jobs.0 ++ l) (sym none) ∙ kept.jobs.1 in
    let same = numbers_are (λ t j. (j.by ≡ t.by) × (j.work ≡ t.work) × (j.context.now ≡ c.args.context.now)) (λ j. j.by)
    (λ t j r. r.0) kept.jobs.0 c.makers.jobs.items kept.jobs.2 in
    cover_all m k _ _ _ _ ended kept.makers below kept.cover (same ∙ ap (map (λ t. t.by)) all)
