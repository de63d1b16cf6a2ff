use Rattle.std.proofs.Common.{◌≡◌, map, take}
use Rattle.std.specs.List.{filter}
use Rattle.cts_run.specs.Transcript.{line_event}
use Rattle.cts_monitor.proofs.Placed.{at_place}
use Rattle.cts_run.proofs.story.text.events_at.Given as goal

abbrev pub invariant-loop-change : goal.invariant-loop-change
invariant-loop-change l = l.found.items ≡ map line_event (filter (at_place l.n) (take l.change-index l.changes))
