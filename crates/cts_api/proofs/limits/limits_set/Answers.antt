use Rattle.std.proofs.Common.{rules}
use Rattle.cts_api.proofs.limits.limits_set.Goals as goal

pub returns : goal.returns
returns c = search rules
