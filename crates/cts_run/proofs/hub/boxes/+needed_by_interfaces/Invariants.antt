use Rattle.std.proofs.Common.{length}
use Rattle.cts_run.proofs.hub.boxes.+needed_by_interfaces.Given as goal

abbrev pub decreases-needed_by_interfaces : goal.decreases-needed_by_interfaces
decreases-needed_by_interfaces l = length l.interfaces.now
