use Rattle.std.proofs.Common.{◌≡◌, ◌≤◌, drop, length}
use Rattle.std.specs.List.{filter}
use Rattle.cts_monitor.specs.Events.{is_from}
use Rattle.cts_monitor.proofs.grid.first_from.Given as goal

abbrev pub invariant-loop-first : goal.invariant-loop-first
invariant-loop-first l = (l.first ≤ length l.events) × (filter (is_from l.from) (drop l.first l.events) ≡ drop l.first l.events)

abbrev pub decreases-loop-first : goal.decreases-loop-first
decreases-loop-first l = l.first
