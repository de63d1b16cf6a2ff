use Rattle.cts_cmd_laws.specs.Sound.{IsPacket}
use Rattle.cts_cmd_laws.proofs.Kept.{LeftKeep}
use Rattle.cts_cmd_laws.proofs.keeping.keep_packets.Given as goal

abbrev pub invariant-loop-packet : goal.invariant-loop-packet
invariant-loop-packet l = LeftKeep IsPacket l.packets l.packet-index
