use Rattle.cts_core.specs.Environments.{environment_of}
use Rattle.cts_core_laws.proofs.Logging.{core_is_logged}
use Rattle.cts_core_laws.proofs.core_is_logged.Goals as goal

pub returns : goal.returns
returns c = λ base. core_is_logged (environment_of base)
