use Rattle.cts_defread.proofs.PacketRules.{new_sound}
use Rattle.cts_defread.proofs.packets.new_packet.Goals as goal

pub invariant_of-result : goal.invariant_of-result
invariant_of-result c = new_sound c.args.head.target c.args.head.name _ _ c.new.ensures c.requires
