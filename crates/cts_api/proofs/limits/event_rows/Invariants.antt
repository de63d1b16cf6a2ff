use Rattle.std.proofs.Common.{◌≡◌, ◌++◌, drop, map}
use Rattle.serde_json.specs.View.{view}
use Rattle.cts_api.specs.Answers.{event_rows}
use Rattle.cts_api.proofs.limits.event_rows.Given as goal

abbrev pub invariant-loop-event : goal.invariant-loop-event
invariant-loop-event l = map view l.rows.items ++ event_rows l.telemetry (drop l.event-index l.events) ≡ event_rows l.telemetry l.events
