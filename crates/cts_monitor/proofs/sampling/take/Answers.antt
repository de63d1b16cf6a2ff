use Rattle.std.proofs.Common.{arith}
use Rattle.std.proofs.lemmas.Grind.{common_steps}
use Rattle.cts_monitor.proofs.sampling.take.Goals as goal

pub returns-in-Some-clause-state : goal.returns-in-Some-clause-state
returns-in-Some-clause-state c = grind (arith, common_steps)

pub returns-in-None-clause-state : goal.returns-in-None-clause-state
returns-in-None-clause-state c = grind (arith, common_steps)

pub returns-then-not-setting-clause-state : goal.returns-then-not-setting-clause-state
returns-then-not-setting-clause-state c = grind (arith, common_steps)
