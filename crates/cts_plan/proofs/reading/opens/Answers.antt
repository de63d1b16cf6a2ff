use Rattle.std.proofs.Common.{rules}
use Rattle.cts_plan.proofs.reading.opens.Goals as goal

pub returns-in-Router : goal.returns-in-Router
returns-in-Router c = search rules
