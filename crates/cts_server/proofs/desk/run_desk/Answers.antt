use Rattle.std.proofs.Common.{◌∙◌, ap, inl}
use Rattle.cts_turn.specs.Lists.{has}
use Rattle.cts_turn.specs.Passes.{view}
use Rattle.cts_worker.proofs.Holdings.{by_one}
use Rattle.cts_server.proofs.Endings.{look_all}
use Rattle.cts_server.proofs.Whys.{desk_ran}
use Rattle.cts_server.proofs.desk.run_desk.Goals as goal

pub run-end-requires-clause-by : goal.run-end-requires-clause-by
run-end-requires-clause-by g c = ap (has c.args.by) c.requires.makers ∙ by_one c.args.by

pub returns-clause-onward : goal.returns-clause-onward
returns-clause-onward g c = let o = c.run-end.ensures.onward in record { makers = o.makers; seen = o.seen; found = o.found }

pub returns-clause-owes : goal.returns-clause-owes
returns-clause-owes g c =
    let e = c.run-end.ensures in
    let end = c.run-end.result in
    inl (record {
      seen = (view end.pass).seen;
      look = look_all c.args.by (view end.pass).seen;
      ends = record { time = e.ends.time; before = e.ends.before; seen_is = e.ends.seen; told_so = e.ends.told_so };
      stands = e.ends.told_so;
      ended = e.ended;
      cause = e.cause;
      failed = e.failed;
      stops = e.stops;
      faults = e.faults;
      aim = e.aim;
      idle = e.idle;
    })

pub returns-clause-worked : goal.returns-clause-worked
returns-clause-worked g c =
    let end = c.run-end.result in
    let old = g.Q.Link.seen c.args.door in
    let new = g.Q.Link.seen c.run-end.new.door in
    desk_ran (view end.pass).seen new.told old.failed_dials new.failed_dials end.why c.run-end.ensures.cause
