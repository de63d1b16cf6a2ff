use Rattle.cts_play_laws.proofs.Kept.{runs_keep_packets}
use Rattle.cts_play_laws.proofs.laws.runs_keep_packets.Goals as goal

pub returns : goal.returns
returns c = runs_keep_packets
