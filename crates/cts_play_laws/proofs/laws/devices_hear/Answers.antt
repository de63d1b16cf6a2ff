use Rattle.cts_play_laws.proofs.Ends.{sites_end}
use Rattle.cts_play_laws.proofs.Hears.{sites_hear}
use Rattle.cts_play_laws.proofs.laws.devices_hear.Goals as goal

pub returns : goal.returns
returns g c = record { heard = sites_hear; ends = sites_end }
