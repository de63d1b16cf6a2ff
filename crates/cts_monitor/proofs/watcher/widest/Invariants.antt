use Rattle.std.proofs.Common.{◌≡◌, ◌≤◌, take}
use Rattle.cts_monitor.specs.Widest.{widest_of}
use Rattle.cts_monitor.proofs.watcher.widest.Given as goal

abbrev pub invariant-loop-packet : goal.invariant-loop-packet
invariant-loop-packet l = record {
  items : l.packet-items ≡ l.site.definitions.telemetry;
  most : l.most ≡ widest_of (take l.packet-index l.packet-items);
  narrow : l.most ≤ 4096;
}
