use Rattle.std.proofs.Common.{rules}
use Rattle.cts_core.proofs.world.World.step.Goals as goal

pub returns-clause-step : goal.returns-clause-step
returns-clause-step c = search rules

pub returns-clause-log : goal.returns-clause-log
returns-clause-log c = search rules

pub returns-clause-lasts : goal.returns-clause-lasts
returns-clause-lasts c = search rules

pub returns-clause-ended : goal.returns-clause-ended
returns-clause-ended c = search rules
