use Rattle.std.proofs.Common.{◌≡◌, ℕ, ◌∷◌, [], sym, ap, subst, ◌∙◌, arith, length, map, count_by}
use Rattle.std.proofs.lemmas.Grind.{common_steps}
use Rattle.cts_outside.specs.Crews.{CancelledFrom, with_cancelled, with_jobs}
use Rattle.cts_server.specs.Tasks.{Leaves}
use Rattle.cts_server.proofs.Steps.{zip_through, zip_right, zip_length, idle_home, left_by, either_way, tasks_back}
use Rattle.cts_server.proofs.Steps.{cancelled_map, count_map, all_home}
use Rattle.cts_worker.specs.Holds.{Onward}
use Rattle.cts_worker.specs.Grounds.{ground}
use Rattle.cts_server.specs.declared.context.WorkerContext.{WorkerContext}
use Rattle.cts_trace.specs.Makers.{of_maker}
use Rattle.cts_turn.specs.Passes.{IsPassOf, view}
use Rattle.cts_server.proofs.running.run_workers.Goals as goal

pub gather-requires-clause-ends : goal.gather-requires-clause-ends
gather-requires-clause-ends g c κs within =
    zip_right _ (λ e. IsPassOf c.args.context.now.turn.now e.pass) c.args.tasks.items c.in-Ok-all.ends.items (λ t e r. r.0)
    (zip_through (λ t j. (j.by ≡ t.by) × (j.work ≡ t.work) × (j.context.now ≡ c.args.context.now)) _
    (λ t e. IsPassOf c.args.context.now.turn.now e.pass × Leaves (g.U.Duty.owes c.args.context.now.digest.now)
    (ground c.args.context.now.turn.now) t (view e.pass).makers (view e.pass).found (view e.pass).seen e.left)
    c.args.tasks.items c.assign.new.jobs.items c.in-Ok-all.ends.items
    (λ t j e r q. left_by (λ (T : WorkerContext _ _ _). g.U.Duty.owes T.digest.now)
    (λ (T : WorkerContext _ _ _). ground T.turn.now) (λ (T : WorkerContext _ _ _) e. IsPassOf T.turn.now e.pass)
    (λ j e. Onward (view j.pass) (view e.pass)) (λ j. j.context.now) (λ j. j.by) (λ j. j.work) (λ e. (view e.pass).makers)
    (λ e. (view e.pass).found) (λ e. (view e.pass).seen) (λ e. e.left) c.args.context.now t j e r (either_way q))
    c.assign.ensures.jobs c.in-Ok-all.ensures.ends)

pub gather-requires-clause-room : goal.gather-requires-clause-room
gather-requires-clause-room g c κs within =
    let jobs = zip_length _ c.args.tasks.items c.assign.new.jobs.items c.assign.ensures.jobs in
    let ends = zip_length _ c.assign.new.jobs.items c.in-Ok-all.ends.items c.in-Ok-all.ensures.ends in
    grind (arith, common_steps)

pub give_back-requires-clause-room : goal.give_back-requires-clause-room
give_back-requires-clause-room g c =
    let jobs = zip_length _ c.args.tasks.items c.assign.new.jobs.items c.assign.ensures.jobs in
    let back = ap length c.in-Err.ensures.back in
    grind (arith, common_steps)

pub returns-in-Ok-all-clause-all : goal.returns-in-Ok-all-clause-all
returns-in-Ok-all-clause-all g c =
    all_home (λ e. (view e.pass).makers) c.args.tasks.items c.in-Ok-all.ends.items _ _ _ _ c.assign.ensures.cover c.rest.ensures.makers c.gather.ensures.makers
    (zip_through (λ t j. (j.by ≡ t.by) × (j.work ≡ t.work) × (j.context.now ≡ c.args.context.now)) _
    (λ t e. (view e.pass).makers ≡ t.by ∷ []) c.args.tasks.items c.assign.new.jobs.items c.in-Ok-all.ends.items
    (λ t j e r q. (left_by (λ (T : WorkerContext _ _ _). g.U.Duty.owes T.digest.now)
    (λ (T : WorkerContext _ _ _). ground T.turn.now) (λ (T : WorkerContext _ _ _) e. IsPassOf T.turn.now e.pass)
    (λ j e. Onward (view j.pass) (view e.pass)) (λ j. j.context.now) (λ j. j.by) (λ j. j.work) (λ e. (view e.pass).makers)
    (λ e. (view e.pass).found) (λ e. (view e.pass).seen) (λ e. e.left) c.args.context.now t j e r (either_way q)).1.makers_are)
    c.assign.ensures.jobs c.in-Ok-all.ensures.ends)

pub returns-in-Ok-all-clause-holds : goal.returns-in-Ok-all-clause-holds
returns-in-Ok-all-clause-holds g c =
    c.gather.ensures.holds c.args.tasks.items
    (zip_through (λ t j. (j.by ≡ t.by) × (j.work ≡ t.work) × (j.context.now ≡ c.args.context.now)) _
    (λ t e. Leaves (g.U.Duty.owes c.args.context.now.digest.now) (ground c.args.context.now.turn.now) t
    (view e.pass).makers (view e.pass).found (view e.pass).seen e.left)
    c.args.tasks.items c.assign.new.jobs.items c.in-Ok-all.ends.items
    (λ t j e r q. (left_by (λ (T : WorkerContext _ _ _). g.U.Duty.owes T.digest.now)
    (λ (T : WorkerContext _ _ _). ground T.turn.now) (λ (T : WorkerContext _ _ _) e. IsPassOf T.turn.now e.pass)
    (λ j e. Onward (view j.pass) (view e.pass)) (λ j. j.context.now) (λ j. j.by) (λ j. j.work) (λ e. (view e.pass).makers)
    (λ e. (view e.pass).found) (λ e. (view e.pass).seen) (λ e. e.left) c.args.context.now t j e r (either_way q)).1)
    c.assign.ensures.jobs c.in-Ok-all.ensures.ends)

pub returns-in-Ok-all-clause-crew : goal.returns-in-Ok-all-clause-crew
returns-in-Ok-all-clause-crew g c =
    let was = g.W.Crew.seen c.args.crew.now in
    let ends = c.in-Ok-all.ends.items in
    let jobs = zip_length _ c.args.tasks.items c.assign.new.jobs.items c.assign.ensures.jobs in
    let count : count_by (λ e. g.U.Duty.was_cancelled e.left) ends ≡ count_by g.U.Duty.was_cancelled c.gather.new.lefts.items = sym
    (count_map g.U.Duty.was_cancelled (λ e. e.left) ends) ∙ ap (count_by g.U.Duty.was_cancelled) (sym c.gather.ensures.lefts) in
    c.in-Ok-all.ensures.count
    ∙ ap (λ (n : ℕ). with_cancelled (with_jobs was n) (count_by (λ e. g.U.Duty.was_cancelled e.left) ends)) jobs
    ∙ ap (λ (n : ℕ). with_cancelled (with_jobs was (length c.args.tasks.items)) n) count

pub returns-in-Ok-all-clause-exact : goal.returns-in-Ok-all-clause-exact
returns-in-Ok-all-clause-exact g c in_turn =
    let refused = (g.W.Crew.seen c.args.crew.now).refused in
    let ends = c.in-Ok-all.ends.items in
    subst (CancelledFrom g.U.Duty.was_cancelled refused 0) (sym c.gather.ensures.lefts)
    (cancelled_map g.U.Duty.was_cancelled (λ e. e.left) refused 0 ends (c.in-Ok-all.ensures.exact in_turn))

pub returns-in-Err-clause-back : goal.returns-in-Err-clause-back
returns-in-Err-clause-back g c =
    c.give_back.ensures ∙ ap (map (λ j. record { by = j.by; work = j.work })) c.in-Err.ensures.back
    ∙ tasks_back (λ j. j.context.now ≡ c.args.context.now) (λ j. j.by) (λ j. j.work) c.args.tasks.items c.assign.new.jobs.items c.assign.ensures.jobs

pub returns-in-Ok-all-clause-silent : goal.returns-in-Ok-all-clause-silent
returns-in-Ok-all-clause-silent g c m below none =
    c.gather.ensures.own m (idle_home m _ _ (map (λ t. t.by) c.args.tasks.items) _ (c.assign.ensures.cover m below) none c.rest.ensures.makers)
    ∙ ap (of_maker m) c.rest.ensures.seen
