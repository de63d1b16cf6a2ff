use Rattle.cts_core.specs.Environments.{environment_of}
use Rattle.cts_core_laws.proofs.OneRun.{has_run, has_one_run}
use Rattle.cts_core_laws.proofs.SiteSound.{site_sound}
use Rattle.cts_core_laws.proofs.runs.Goals as goal

pub returns : goal.returns
returns c = record { some = λ base. has_run (environment_of base) (site_sound base); one = λ base. has_one_run (environment_of base) (site_sound base); sound = site_sound }
