use Rattle.std.proofs.Common.{◌≡◌, ℕ, true, ◌++◌, ◌+◌, ◌≤◌, List, map, vec_len, vec_capacity}
use Rattle.std.specs.List.{AllByRecursion, AllZip, flat_map}
use Rattle.cts_worker.specs.Grounds.{ground}
use Rattle.cts_trace.specs.Makers.{of_maker}
use Rattle.cts_turn.specs.Lists.{has}
use Rattle.cts_turn.specs.Passes.{IsPassOf, view}
use Rattle.cts_server.specs.declared.running.Task.{Task}
use Rattle.cts_server.specs.Tasks.{Holds, Leaves}
use Rattle.cts_server.proofs.running.gather.Given as goal

abbrev pub invariant-ends : goal.invariant-ends
invariant-ends g l = record {
  pass : IsPassOf l.context.turn.now l.pass;
  ends : AllByRecursion (λ e. IsPassOf l.context.turn.now e.pass) l.ends.items;
  own : (m : ℕ) → has m (view l.fn.pass).makers ≡ true
      → (has m (view l.pass).makers ≡ true) × (of_maker m (view l.pass).seen ≡ of_maker m (view l.fn.pass).seen);
  lefts : l.lefts.items ++ map (λ e. e.left) l.ends.items ≡ map (λ e. e.left) l.fn.ends.items;
  room : vec_len l.lefts + vec_len l.ends ≤ vec_capacity l.lefts;
  makers : (view l.pass).makers ++ flat_map (λ e. (view e.pass).makers) l.ends.items ≡ (view l.fn.pass).makers ++ flat_map
      (λ e. (view e.pass).makers) l.fn.ends.items;
  holds : (ts : List (Task _)) → AllZip (λ t e. Leaves (g.U.Duty.owes l.context.digest.now)
      (ground l.context.turn.now) t (view e.pass).makers (view e.pass).found (view e.pass).seen e.left) ts l.fn.ends.items
      → (done left : List (Task _)) × (done ++ left ≡ ts) × AllZip
      (Holds (g.U.Duty.owes l.context.digest.now) (ground l.context.turn.now)
      (view l.pass).makers (view l.pass).seen) done l.lefts.items
      × AllZip (λ t e. Leaves (g.U.Duty.owes l.context.digest.now)
      (ground l.context.turn.now) t (view e.pass).makers (view e.pass).found (view e.pass).seen e.left) left l.ends.items;
}

abbrev pub decreases-ends : goal.decreases-ends
decreases-ends g l = goal.left-ends g l
