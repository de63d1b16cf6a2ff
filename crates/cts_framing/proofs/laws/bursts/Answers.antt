use Rattle.cts_framing.proofs.BurstCutting.{burst_cuts}
use Rattle.cts_framing.proofs.laws.bursts.Goals as goal

pub returns : goal.returns
returns c = burst_cuts
