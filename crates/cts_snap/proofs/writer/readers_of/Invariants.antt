use Rattle.std.proofs.Common.{◌≡◌, ◌≤◌, ◌-◌, length}
use Rattle.std.specs.Prelude.{All}
use Rattle.cts_snap.specs.Panes.{unread}
use Rattle.cts_snap.proofs.writer.readers_of.Given as goal

abbrev pub invariant-readers : goal.invariant-readers
invariant-readers g l = record {
  many : length l.all.items ≤ l.readers;
  each : All (λ reader. reader ≡ unread) l.all.items;
}

abbrev pub decreases-readers : goal.decreases-readers
decreases-readers g l = l.readers - length l.all.items
