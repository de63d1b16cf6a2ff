use Rattle.std.proofs.Common.{◌++◌, ℕ, List, length}
use Rattle.cts_def.specs.Sites.{SiteData}
use Rattle.cts_entry.specs.declared.event.Event.{Event}
use Rattle.cts_run.specs.Rehearsal.{IsFar}
use Rattle.cts_run.proofs.rehearse.do_choice.Given as goal

abbrev pub invariant-events : goal.invariant-events
invariant-events g l = (site : SiteData) (n : ℕ) (more : List Event) → IsFar site n (l.events ++ more) l.before l.fn.story → IsFar site n (l.left ++ more) l.refused l.story

abbrev pub decreases-events : goal.decreases-events
decreases-events g l = length l.left
