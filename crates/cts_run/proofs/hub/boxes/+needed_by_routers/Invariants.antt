use Rattle.std.proofs.Common.{length}
use Rattle.cts_run.proofs.hub.boxes.+needed_by_routers.Given as goal

abbrev pub decreases-needed_by_routers : goal.decreases-needed_by_routers
decreases-needed_by_routers l = length l.routers.now
