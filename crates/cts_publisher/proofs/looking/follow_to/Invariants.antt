use Rattle.std.proofs.Common.{◌-◌}
use Rattle.cts_worker.specs.Followed.{Follows}
use Rattle.cts_publisher.proofs.looking.follow_to.Given as goal

abbrev pub invariant-entries : goal.invariant-entries
invariant-entries l = Follows l.progress l.hall.entries

abbrev pub decreases-entries : goal.decreases-entries
decreases-entries l = l.until - l.progress.place
