use Rattle.std.proofs.Common.{rules}
use Rattle.cts_cmd.proofs.contents.nearest.Goals as goal

pub returns-else-value-least-clause-value : goal.returns-else-value-least-clause-value
returns-else-value-least-clause-value c = search rules
