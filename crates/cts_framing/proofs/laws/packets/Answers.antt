use Rattle.cts_framing.proofs.Stagings.{has_packets, has_one_packets, packets_grow, however_cut}
use Rattle.cts_framing.proofs.laws.packets.Goals as goal

pub returns : goal.returns
returns c = record { some = has_packets; one = has_one_packets; grow = packets_grow; however_cut = however_cut }
