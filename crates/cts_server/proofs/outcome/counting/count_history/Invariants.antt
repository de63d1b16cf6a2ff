use Rattle.std.proofs.Common.{◌≡◌, take}
use Rattle.std.specs.Prelude.{sum_by}
use Rattle.cts_entry.specs.Histories.{bytes_for, entries_for}
use Rattle.cts_server.proofs.outcome.counting.count_history.Given as goal

abbrev pub invariant-entries : goal.invariant-entries
invariant-entries l = (l.entries ≡ sum_by (λ e. entries_for e.what) (take l.n l.history)) × (l.bytes ≡ sum_by (λ e. bytes_for e.what) (take l.n l.history))
