use Rattle.std.proofs.Common.{◌≡◌, ◌||◌, ◌==◌, drop}
use Rattle.std.specs.List.{list_any}
use Rattle.cts_entry.specs.declared.entry.Entry.{Entry}
use Rattle.cts_desk_scribe_tests.proofs.scribing.has_made.Given as goal

abbrev pub invariant-loop-n : goal.invariant-loop-n
invariant-loop-n l = (l.made || list_any (λ (e : Entry). e.by == l.by) (drop l.n l.hall.entries)) ≡ list_any (λ (e : Entry). e.by == l.by) l.hall.entries
