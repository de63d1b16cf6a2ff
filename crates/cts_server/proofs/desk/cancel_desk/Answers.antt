use Rattle.std.proofs.Common.{◌∙◌, ap, inr, refl}
use Rattle.cts_turn.specs.Lists.{has}
use Rattle.cts_worker.proofs.Holdings.{by_one}
use Rattle.cts_server.specs.Desks.{is_cancelled}
use Rattle.cts_server.proofs.desk.cancel_desk.Goals as goal

pub cancel-end-requires-clause-by : goal.cancel-end-requires-clause-by
cancel-end-requires-clause-by g c = ap (has c.args.by) c.requires.makers ∙ by_one c.args.by

pub returns-clause-onward : goal.returns-clause-onward
returns-clause-onward g c = let o = c.cancel-end.ensures.onward in record { makers = o.makers; seen = o.seen; found = o.found }

pub returns-clause-owes : goal.returns-clause-owes
returns-clause-owes g c =
    let e = c.cancel-end.ensures in
    let own = e.own in
    inr (record {
      unstarted = record { stood = own.0; begins = own.2; own = own.3; stopped = e.stops };
      same = refl;
      none = e.fronts;
      cancelled = e.why;
    })

pub returns-clause-cancelled : goal.returns-clause-cancelled
returns-clause-cancelled g c = ap is_cancelled c.cancel-end.ensures.why
