use Rattle.cts_framing.proofs.ShortRests.{rests_are_short}
use Rattle.cts_framing.proofs.laws.rests.Goals as goal

pub returns : goal.returns
returns c = rests_are_short
