use Rattle.std.proofs.Common.{◌≡◌, ◌++◌, drop, map}
use Rattle.serde_json.specs.View.{view}
use Rattle.cts_api.specs.Answers.{out_rows}
use Rattle.cts_api.specs.Telling.{point}
use Rattle.cts_api.proofs.limits.push_out.Given as goal

abbrev pub invariant-loop-place : goal.invariant-loop-place
invariant-loop-place l =
    map view l.rows.items ++ out_rows (point l.hall) l.number l.packet l.place (drop l.place l.packet.items)
    ≡ map view l.fn.rows.items ++ out_rows (point l.hall) l.number l.packet 0 l.packet.items
