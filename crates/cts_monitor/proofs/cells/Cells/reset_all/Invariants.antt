use Rattle.std.proofs.Common.{◌≡◌, ◌≤◌, length, take}
use Rattle.cts_monitor.specs.Grid.{Each}
use Rattle.cts_monitor.proofs.Keyed.{Mixed}
use Rattle.cts_monitor.proofs.NoteSteps.{CellAt}
use Rattle.cts_monitor.proofs.cells.Cells.reset_all.Given as goal

abbrev pub invariant-loop-i : goal.invariant-loop-i
invariant-loop-i g l = record {
  long : length l.self-inside.cells.items ≡ length l.packet.items;
  top : l.i ≤ length l.packet.items;
  cells : Each (Mixed (CellAt l.packet l.number (take l.at (g.H.Stands.list l.history)) l.packet.items) (CellAt l.packet l.number (g.H.Stands.list l.history) l.packet.items) l.i) l.self-inside.cells.items;
}
