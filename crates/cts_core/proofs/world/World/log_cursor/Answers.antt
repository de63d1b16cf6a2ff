use Rattle.std.proofs.Common.{rules}
use Rattle.cts_core.proofs.world.World.log_cursor.Goals as goal

pub returns : goal.returns
returns c = search rules
