use Rattle.cts_framing.proofs.OneCut.{has_one_cut}
use Rattle.cts_framing.proofs.OneStage.{has_one_stage}
use Rattle.cts_framing.proofs.SomeCut.{some_cut}
use Rattle.cts_framing.proofs.laws.cuts.Goals as goal

pub returns : goal.returns
returns c = record { some = some_cut; one = has_one_cut; stage = has_one_stage }
