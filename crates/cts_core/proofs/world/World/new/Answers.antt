use Rattle.std.proofs.Common.{rules}
use Rattle.cts_core.proofs.world.World.new.Goals as goal

pub returns : goal.returns
returns g c = search rules
