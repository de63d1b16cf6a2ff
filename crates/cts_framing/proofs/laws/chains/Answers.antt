use Rattle.cts_framing.proofs.Chainings.{makers_have_their_chains, chains_have_stages}
use Rattle.cts_framing.proofs.Sound.{chains_are_sound}
use Rattle.cts_framing.proofs.laws.chains.Goals as goal

pub returns : goal.returns
returns c = record { makers = makers_have_their_chains; sound = chains_are_sound; stages = chains_have_stages }
