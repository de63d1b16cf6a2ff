use Rattle.std.proofs.Common.{◌≡◌, ◌++◌, drop, map}
use Rattle.serde_json.specs.View.{view}
use Rattle.cts_api.specs.Answers.{rows_from}
use Rattle.cts_api.specs.Telling.{point}
use Rattle.cts_api.proofs.values.rows.Given as goal

abbrev pub invariant-loop-place : goal.invariant-loop-place
invariant-loop-place l =
    map view l.rows.items ++ rows_from (point l.hall) l.reading.kind l.reading.number l.packet l.reading.bytes.now l.place (drop l.place l.packet.items)
    ≡ rows_from (point l.hall) l.reading.kind l.reading.number l.packet l.reading.bytes.now 0 l.packet.items
