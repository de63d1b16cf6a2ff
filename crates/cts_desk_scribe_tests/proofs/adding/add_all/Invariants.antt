use Rattle.std.proofs.Common.{◌≡◌}
use Rattle.cts_desk_scribe_tests.proofs.adding.add_all.Given as goal

abbrev pub invariant-entries : goal.invariant-entries
invariant-entries l = l.hall.basis ≡ l.initial.hall.basis
