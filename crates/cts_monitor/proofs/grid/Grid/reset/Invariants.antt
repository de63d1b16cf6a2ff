use Rattle.std.proofs.Common.{◌≡◌, ◌≤◌, ◌+◌, length, take, vec_len, vec_capacity}
use Rattle.cts_monitor.specs.Grid.{Each, RowTells, rows_of}
use Rattle.cts_monitor.proofs.Keyed.{Mixed}
use Rattle.cts_monitor.proofs.grid.Grid.reset.Given as goal

abbrev pub invariant-loop-p : goal.invariant-loop-p
invariant-loop-p g l = record {
  long : length l.self-inside.rows.items ≡ rows_of l.site;
  top : l.p ≤ length l.self-inside.rows.items;
  rows : Each (Mixed (RowTells l.site (take l.at (g.H.Stands.list l.history))) (RowTells l.site (g.H.Stands.list l.history)) l.p) l.self-inside.rows.items;
  events : l.self-inside.events.items ≡ l.fn.self.events;
  free : l.self-inside.free ≡ l.fn.self.free;
  room : vec_len l.self-inside.events + l.self-inside.free ≤ vec_capacity l.self-inside.events;
}
