use Rattle.cts_core.specs.Environments.{environment_of}
use Rattle.cts_core_laws.proofs.SiteSound.{apart, by_desks, site_sound}
use Rattle.cts_core_laws.proofs.Telling.{core_is_told}
use Rattle.cts_core_laws.proofs.core_is_told.Goals as goal

pub returns : goal.returns
returns c = record { told = λ base. core_is_told (environment_of base) (site_sound base) (by_desks base); desks = by_desks; apart = apart }
