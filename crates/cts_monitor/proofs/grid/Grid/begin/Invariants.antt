use Rattle.std.proofs.Common.{◌≡◌, take}
use Rattle.std.specs.Prelude.{map}
use Rattle.cts_def.specs.Packets.{PacketData}
use Rattle.cts_monitor.specs.Cells.{begun_cell}
use Rattle.cts_monitor.proofs.grid.Grid.begin.Given as goal

abbrev pub invariant-loop-packet : goal.invariant-loop-packet
invariant-loop-packet l = record {
  items : l.packet-items ≡ l.site.definitions.telemetry;
  rows : l.rows.items ≡ map (λ (packet : PacketData). map begun_cell packet.items) (take l.packet-index l.packet-items);
}
