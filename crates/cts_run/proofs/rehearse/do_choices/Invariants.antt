use Rattle.std.proofs.Common.{length}
use Rattle.cts_run.specs.Rehearsal.{IsFar}
use Rattle.cts_run.specs.Story.{site_told}
use Rattle.cts_run.proofs.rehearse.do_choices.Given as goal

abbrev pub invariant-choices : goal.invariant-choices
invariant-choices g l = IsFar (site_told l.fn.story) l.fn.number l.rehearsal l.refused l.story

abbrev pub decreases-choices : goal.decreases-choices
decreases-choices g l = length l.rehearsal
