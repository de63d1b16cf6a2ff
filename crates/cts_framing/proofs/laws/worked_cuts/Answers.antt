use Rattle.cts_framing.proofs.Worked.{worked_cuts}
use Rattle.cts_framing.proofs.laws.worked_cuts.Goals as goal

pub returns : goal.returns
returns c = worked_cuts
