use Rattle.std.proofs.Common.{◌≡◌, ◌++◌}
use Rattle.cts_turn.specs.Lists.{of}
use Rattle.cts_turn.specs.Passes.{IsPassOf, view}
use Rattle.cts_worker_tests.specs.Added.{added}
use Rattle.cts_worker_tests.proofs.holds.add_many.Given as goal

abbrev pub invariant-loop-seconds : goal.invariant-loop-seconds
invariant-loop-seconds g l =
    IsPassOf l.turn l.pass
    × ((view l.pass).makers ≡ (view l.initial.pass).makers)
    × (of (λ e. e.by) l.by (view l.pass).seen ≡ of (λ e. e.by) l.by (view l.initial.pass).seen ++ added l.by l.seconds)
