use Rattle.std.proofs.Common.{◌≡◌, ◌≤◌, ◌+◌, ◌++◌, take, drop, length, vec_len, vec_capacity}
use Rattle.cts_monitor.specs.Cells.{Fit, sampled_all, turns}
use Rattle.cts_monitor.proofs.cells.Cells.sample_all.Given as goal

abbrev pub invariant-loop-i : goal.invariant-loop-i
invariant-loop-i l = record {
  long : length l.self-inside.cells.items ≡ length l.packet.items;
  fit : Fit (drop l.i l.packet.items) (drop l.i l.self-inside.cells.items);
  top : l.i ≤ length l.packet.items;
  len : vec_len l.events ≤ vec_len l.fn.events + l.i;
  capacity : vec_capacity l.events ≡ vec_capacity l.fn.events;
  row : take l.i l.self-inside.cells.items ++ sampled_all l.packet l.bytes (drop l.i l.packet.items) (drop l.i l.self-inside.cells.items) ≡ sampled_all l.packet l.bytes l.packet.items l.fn.self;
  told : l.events.items ++ turns l.at l.number l.i l.packet l.bytes (drop l.i l.packet.items) (drop l.i l.self-inside.cells.items) ≡ l.fn.events.items ++ turns l.at l.number 0 l.packet l.bytes l.packet.items l.fn.self;
}
