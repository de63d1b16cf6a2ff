use Rattle.std.proofs.Common.{drop}
use Rattle.cts_reader.proofs.FirstCause.{TellsForAll}
use Rattle.cts_reader.proofs.causes.first_that_holds.Given as goal

abbrev pub invariant-loop-cause : goal.invariant-loop-cause
invariant-loop-cause g l = TellsForAll (goal.F-post g l.holds) (drop l.cause-index l.order) l.order
