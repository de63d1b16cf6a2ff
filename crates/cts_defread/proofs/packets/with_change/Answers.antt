use Rattle.cts_defread.proofs.PacketRules.{detail_sound}
use Rattle.cts_defread.proofs.packets.with_change.Goals as goal

pub invariant_of-packet : goal.invariant_of-packet
invariant_of-packet c = detail_sound c.args.detail _ _ c.packet.invariant c.in_ok-change_last.ensures
