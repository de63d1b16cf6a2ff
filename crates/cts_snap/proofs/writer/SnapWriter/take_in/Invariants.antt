use Rattle.std.proofs.Common.{◌≡◌, ◌≤◌, ◌+◌, ◌-◌, ◌⊎◌, length}
use mathlib.Core.List.{IsPrefix}
use Rattle.cts_snap.proofs.writer.SnapWriter.take_in.Given as goal

abbrev pub invariant-entries : goal.invariant-entries
invariant-entries g l = record {
  published : l.self.published ≡ l.initial.self.published;
  seen : IsPrefix l.initial.self.list l.self.list;
  begins : IsPrefix l.self.list l.hall.entries;
  within : length l.self.waiting ≤ l.until;
  short : l.until ≤ length l.hall.entries;
  taken : (l.self.waiting ≡ l.self.list) ⊎ (length l.self.waiting ≡ length l.initial.self.waiting);
}

abbrev pub decreases-entries : goal.decreases-entries
decreases-entries g l = l.until - length l.self.waiting
