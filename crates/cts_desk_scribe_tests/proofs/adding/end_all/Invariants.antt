use Rattle.std.proofs.Common.{◌≡◌}
use Rattle.cts_desk_scribe_tests.proofs.adding.end_all.Given as goal

abbrev pub invariant-workers : goal.invariant-workers
invariant-workers l = l.hall.basis ≡ l.initial.hall.basis
