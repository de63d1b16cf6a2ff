use Rattle.std.proofs.Common.{length}
use Rattle.cts_run.specs.Hub.{IsHeard}
use Rattle.cts_run.specs.Story.{site_told}
use Rattle.cts_run.proofs.hub.above.run_above.Given as goal

abbrev pub invariant-events : goal.invariant-events
invariant-events g l = IsHeard (site_told l.fn.story) l.slot l.events l.left l.live l.held.items l.story

abbrev pub decreases-events : goal.decreases-events
decreases-events g l = length l.left
