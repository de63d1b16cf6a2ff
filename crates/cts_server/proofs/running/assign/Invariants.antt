use Rattle.std.proofs.Common.{◌≡◌, ℕ, ◌<◌, ◌≤◌, ◌+◌, ◌++◌, List, [], ◌∷◌, true, map, vec_len, vec_capacity}
use Rattle.std.specs.List.{AllByRecursion, AllZip, flat_map}
use Rattle.cts_server.specs.Tasks.{Rising}
use Rattle.cts_turn.specs.Lists.{has, makers_from}
use Rattle.cts_trace.specs.Makers.{of_maker}
use Rattle.cts_worker.specs.Grounds.{ground}
use Rattle.cts_turn.specs.Passes.{IsPassOf, view}
use Rattle.cts_server.proofs.running.assign.Given as goal

abbrev pub invariant-makers : goal.invariant-makers
invariant-makers g l = record {
  pass : IsPassOf l.context.turn.now l.pass;
  makers : (view l.pass).makers ≡ makers_from l.by;
  seen : (view l.pass).seen ≡ [];
  rising : Rising l.by l.tasks.items;
  can : AllByRecursion (λ t. g.U.Duty.can l.context.site.now t.work t.by (ground l.context.turn.now)) l.tasks.items;
  jobs : (done : List _) × (done ++ l.tasks.items ≡ l.fn.tasks.items)
      × AllZip (λ t j. (j.by ≡ t.by) × (j.work ≡ t.work) × (j.context.now ≡ l.context)) done l.jobs.items;
  ready : AllByRecursion (λ j. IsPassOf j.context.now.turn.now j.pass × ((view j.pass).makers ≡ j.by ∷ []) × (of_maker j.by (view j.pass).seen ≡ [])
      × g.U.Duty.can j.context.now.site.now j.work j.by (ground j.context.now.turn.now)) l.jobs.items;
  idle : AllByRecursion (λ p. IsPassOf l.context.turn.now p × ((view p).seen ≡ [])) l.idle.items;
  cover : (m : ℕ) → m < l.by → has m (flat_map (λ p. (view p).makers) l.idle.items ++ map (λ j. j.by) l.jobs.items) ≡ true;
  room : vec_len l.jobs + vec_len l.tasks ≤ vec_capacity l.jobs;
  idle_room : (vec_len l.idle ≤ l.by) × (31 ≤ vec_capacity l.idle);
  task_room : vec_len l.fn.tasks ≤ vec_capacity l.tasks;
}
