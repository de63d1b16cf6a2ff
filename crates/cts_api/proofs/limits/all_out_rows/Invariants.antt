use Rattle.std.proofs.Common.{◌≡◌, ◌++◌, drop, map}
use Rattle.serde_json.specs.View.{view}
use Rattle.cts_api.specs.Answers.{all_out_rows}
use Rattle.cts_api.specs.Telling.{point}
use Rattle.cts_api.proofs.limits.all_out_rows.Given as goal

abbrev pub invariant-loop-number : goal.invariant-loop-number
invariant-loop-number l =
    map view l.rows.items ++ all_out_rows (point l.hall) l.number (drop l.number l.telemetry) ≡ all_out_rows (point l.hall) 0 l.telemetry
