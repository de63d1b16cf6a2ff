use Rattle.std.proofs.Common.{◌∙◌, ap, inl, subst, sym, refl}
use Rattle.cts_desk.specs.declared.ending.DeskWhy.{DeskWhy}
use Rattle.cts_snap_desk.specs.Ending.{desk_why}
use Rattle.cts_snap_server.specs.SnapDesks.{OwesSnapDesk, pane_of}
use Rattle.cts_turn.specs.Lists.{has}
use Rattle.cts_turn.specs.Passes.{view}
use Rattle.cts_worker.specs.Grounds.{ground}
use Rattle.cts_worker.proofs.Holdings.{by_one}
use Rattle.cts_snap_server.proofs.Endings.{begins_itself, desk_ran}
use Rattle.cts_snap_server.proofs.desk.run_snap_desk.Goals as goal

pub run-end-requires-clause-by : goal.run-end-requires-clause-by
run-end-requires-clause-by g c κs within = ap (has c.args.hand.now.by) c.requires.makers ∙ by_one c.args.hand.now.by

pub run-end-requires-clause-desk : goal.run-end-requires-clause-desk
run-end-requires-clause-desk g c κs within = c.requires.can.desk

pub run-end-requires-clause-site : goal.run-end-requires-clause-site
run-end-requires-clause-site g c κs within = c.requires.can.site

pub returns-clause-onward : goal.returns-clause-onward
returns-clause-onward g c = let o = c.run-end.ensures.onward in record { makers = o.makers; seen = o.seen; found = o.found }

pub returns-clause-owes : goal.returns-clause-owes
returns-clause-owes g c =
    let e = c.run-end.ensures in
    let end = c.run-end.result in
    subst (λ (w : DeskWhy). OwesSnapDesk (ground c.args.hand.now.turn.now) c.args.hand.now.by (view end.pass).found (view end.pass).seen
    (g.Q.Link.seen c.args.door) (g.Q.Link.seen c.run-end.new.door)
    (pane_of g.P.Pane.basis g.P.Pane.list g.P.Pane.refused c.args.reader)
    (pane_of g.P.Pane.basis g.P.Pane.list g.P.Pane.refused end.reader) end.fronts w)
    (sym c.why_of-why.ensures)
    (inl (record {
      seen = (view end.pass).seen;
      begins = begins_itself (view end.pass).seen;
      own = refl;
      ends = record { time = e.ends.time; earlier = e.ends.before; seen_is = e.ends.seen; told_so = e.ends.told_so };
      ended = e.ended;
      cause = e.cause;
      failed = λ apart. e.failed (λ is. apart (ap desk_why is));
      stops = e.stops;
      faults = e.faults;
      aim = e.aim;
      idle = e.idle;
    }))

pub returns-clause-worked : goal.returns-clause-worked
returns-clause-worked g c = λ is.
    let end = c.run-end.result in
    let old = g.Q.Link.seen c.args.door in
    let new = g.Q.Link.seen c.run-end.new.door in
    desk_ran (view end.pass).seen new.told old.failed_dials new.failed_dials (desk_why end.why) c.run-end.ensures.cause (sym c.why_of-why.ensures ∙ is)
