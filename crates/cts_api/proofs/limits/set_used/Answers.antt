use Rattle.std.proofs.Common.{rules}
use Rattle.cts_api.proofs.limits.set_used.Goals as goal

pub returns-then-own : goal.returns-then-own
returns-then-own c = search rules

pub returns-else-own : goal.returns-else-own
returns-else-own c = search rules
