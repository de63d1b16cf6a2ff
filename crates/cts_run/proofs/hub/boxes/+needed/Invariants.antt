use Rattle.std.proofs.Common.{length}
use Rattle.cts_run.proofs.hub.boxes.+needed.Given as goal

abbrev pub decreases-needed : goal.decreases-needed
decreases-needed l = length l.uses.now
