use Rattle.std.proofs.Common.{rules}
use Rattle.cts_plan.proofs.causes.causes.Goals as goal

pub returns : goal.returns
returns c = search rules
