use Rattle.std.proofs.Common.{ap, arith}
use Rattle.cts_def.specs.Packets.{PacketData, length_of}
use Rattle.cts_conv.proofs.Needed.{needed_in}
use Rattle.cts_conv.proofs.raws.raw_number.Goals as goal

pub number-requires-clause-needed : goal.number-requires-clause-needed
number-requires-clause-needed c =
    let n = needed_in c.args.packet.now.items c.args.item.now c.requires.item in
    let same = ap (λ (p : PacketData). length_of p.items) c.packet.view_is in
    let least = c.packet.invariant.least in
    omega arith
