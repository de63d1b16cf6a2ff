use Rattle.std.proofs.Common.{rules}
use Rattle.cts_cmd.proofs.hazards.is_hazard.Goals as goal

pub returns-then-is_number : goal.returns-then-is_number
returns-then-is_number c = search rules
