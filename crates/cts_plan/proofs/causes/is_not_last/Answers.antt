use Rattle.std.proofs.Common.{rules}
use Rattle.cts_plan.proofs.causes.is_not_last.Goals as goal

pub returns-then-step : goal.returns-then-step
returns-then-step c = search rules

pub returns-else-step : goal.returns-else-step
returns-else-step c = search rules

pub returns-in_default : goal.returns-in_default
returns-in_default c = search rules

pub returns-in_default-2 : goal.returns-in_default-2
returns-in_default-2 c = search rules
