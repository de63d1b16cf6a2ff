use Rattle.cts_core.specs.Environments.{environment_of}
use Rattle.cts_core.proofs.Passing.{ahead_is, unsent_is}
use Rattle.cts_core_laws.proofs.cursors.Goals as goal

pub returns : goal.returns
returns c = λ base s by place count p. (ahead_is (environment_of base) s by place count p, unsent_is (environment_of base) s by place count p)
