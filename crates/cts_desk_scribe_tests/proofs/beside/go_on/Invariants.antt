use Rattle.std.proofs.Common.{◌≡◌, true, length}
use Rattle.cts_turn.specs.Lists.{has}
use Rattle.cts_turn.specs.Passes.{IsPassOf, view}
use Rattle.cts_desk_scribe_tests.proofs.beside.go_on.Given as goal

abbrev pub invariant-entries : goal.invariant-entries
invariant-entries g l = IsPassOf l.turn l.pass × (has 0 (view l.pass).makers ≡ true)

abbrev pub decreases-entries : goal.decreases-entries
decreases-entries g l = length l.entries.items
