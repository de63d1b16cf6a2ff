use Rattle.std.proofs.Common.{◌≡◌, ◌++◌, take}
use Rattle.cts_script.specs.Events.{event_lines}
use Rattle.cts_script.proofs.events.put_events.Given as goal

abbrev pub invariant-loop-event : goal.invariant-loop-event
invariant-loop-event l = l.out.items ≡ l.fn.out.items ++ event_lines l.site (take l.event-index l.events)
