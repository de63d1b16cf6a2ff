use Rattle.std.proofs.Common.{◌≡◌, take}
use Rattle.std.specs.Prelude.{map}
use Rattle.cts_monitor.specs.Cells.{begun_cell}
use Rattle.cts_monitor.proofs.cells.Cells.begin.Given as goal

abbrev pub invariant-loop-item : goal.invariant-loop-item
invariant-loop-item l = record {
  kept : l.cells.items ≡ map begun_cell (take l.item-index l.items);
}
