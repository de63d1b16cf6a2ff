use Rattle.std.proofs.Common.{rules, ◌≡◌, true, false}
use Rattle.serde_json.specs.View.{view}
use Rattle.cts_api.specs.Telling.{point}
use Rattle.cts_api.proofs.Sent.{stands_already, stops_now}
use Rattle.cts_api.proofs.sending.stop.Goals as goal

pub returns-then-stopped : goal.returns-then-stopped
returns-then-stopped c =
    let on : (point c.args.hall.now).stopped ≡ true = search rules in
    stands_already (point c.args.hall.now) (view c.nothing.result) on c.nothing.ensures

pub returns : goal.returns
returns c =
    let off : (point c.args.hall.now).stopped ≡ false = search rules in
    stops_now (point c.args.hall.now) (view c.nothing-2.result) off c.nothing-2.ensures
