use Rattle.cts_plan_laws.proofs.SoundSites.{sites_are_sound}
use Rattle.cts_plan_laws.proofs.sites_are_sound.Goals as goal

pub returns : goal.returns
returns c = sites_are_sound
