use Rattle.std.proofs.Common.{◌∙◌, ap, inr, refl}
use Rattle.cts_snap_desk.specs.Ending.{desk_why}
use Rattle.cts_snap_server.specs.SnapDesks.{pane_of}
use Rattle.cts_turn.specs.Lists.{has}
use Rattle.cts_worker.proofs.Holdings.{by_one}
use Rattle.cts_snap_server.proofs.desk.cancel_snap_desk.Goals as goal

pub cancel-end-requires-clause-by : goal.cancel-end-requires-clause-by
cancel-end-requires-clause-by g c κs within = ap (has c.args.hand.now.by) c.requires.makers ∙ by_one c.args.hand.now.by

pub cancel-end-requires-clause-desk : goal.cancel-end-requires-clause-desk
cancel-end-requires-clause-desk g c κs within = c.requires.can.desk

pub returns-clause-onward : goal.returns-clause-onward
returns-clause-onward g c = let o = c.cancel-end.ensures.onward in record { makers = o.makers; seen = o.seen; found = o.found }

pub returns-clause-owes : goal.returns-clause-owes
returns-clause-owes g c =
    let e = c.cancel-end.ensures in
    let own = e.own in
    inr (record {
      stood = own.0;
      begins = own.2;
      own = own.3;
      stopped = e.stops;
      same = refl;
      unread = ap (pane_of g.P.Pane.basis g.P.Pane.list g.P.Pane.refused) e.reader;
      none = e.fronts;
      cancelled = c.why_of-why.ensures ∙ ap desk_why e.why;
    })

pub returns-clause-cancelled : goal.returns-clause-cancelled
returns-clause-cancelled g c = c.why_of-why.ensures ∙ ap desk_why c.cancel-end.ensures.why
