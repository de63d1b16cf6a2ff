use Rattle.std.proofs.Common.{◌∙◌, Some, ap, subst, inl}
use Rattle.cts_connection.specs.Routings.{site_routing}
use Rattle.cts_line.specs.Ending.{CausesEnd, DialsFor, reconnects}
use Rattle.cts_line.specs.Rows.{ToldInRows}
use Rattle.cts_line.specs.Talks.{room_of}
use Rattle.cts_line.specs.Telling.{SomeLine, made_by, since}
use Rattle.cts_turn.specs.Lists.{has}
use Rattle.cts_turn.specs.Passes.{view}
use Rattle.cts_worker.specs.Grounds.{ground}
use Rattle.cts_worker.proofs.Holdings.{by_one}
use Rattle.cts_server.proofs.Endings.{look_all}
use Rattle.cts_server.proofs.Whys.{line_ran}
use Rattle.cts_server.proofs.line.run_line.Goals as goal

pub run-end-requires-clause-by : goal.run-end-requires-clause-by
run-end-requires-clause-by g c = ap (has c.args.by) c.requires.makers ∙ by_one c.args.by

pub returns-clause-onward : goal.returns-clause-onward
returns-clause-onward g c = let o = c.run-end.ensures.onward in record { makers = o.makers; seen = o.seen; found = o.found }

pub returns-clause-owes : goal.returns-clause-owes
returns-clause-owes g c =
    let e = c.run-end.ensures in
    let same = c.requires.can.same in
    let basis = ground c.args.context.now.turn.now in
    let v = view c.run-end.result.pass in
    let old = g.D.Link.seen c.args.line.device in
    let new = g.D.Link.seen c.run-end.new.dialer in
    let some = subst (λ s. SomeLine (λ told. ToldInRows (site_routing s) (room_of basis) c.args.by v.found v.seen told)) same e.some in
    let told = subst (λ s. ToldInRows (site_routing s) (room_of basis) c.args.by v.found v.seen (since (made_by old.told) new.told)) same e.told in (
      c.run-end.result.connections,
      inl (record {
        seen = v.seen;
        look = look_all c.args.by v.seen;
        looked = told;
        told = told;
        some = some;
        retells = e.retells;
        ended = e.ended;
        opened = e.connections;
        once = λ h. e.once (ap (λ s. reconnects s c.args.by) same ∙ h);
        cause = subst (λ s. CausesEnd s basis.entries c.args.by v.seen new.told old.failed_dials new.failed_dials c.run-end.result.why) same e.cause;
        stops = e.stops.stood;
        own_stop = e.stops.own;
        faults = e.faults;
        dials = subst (λ s. DialsFor s c.args.by (Some c.run-end.result.why) old new) same e.dials;
        full = e.closed.full;
        memory = e.closed.memory;
        idle = e.idle;
      }),
    )

pub returns-clause-worked : goal.returns-clause-worked
returns-clause-worked g c =
    let basis = ground c.args.context.now.turn.now in
    let old = g.D.Link.seen c.args.line.device in
    let new = g.D.Link.seen c.run-end.new.dialer in
    line_ran c.args.context.now.site.now basis.entries c.args.by (view c.run-end.result.pass).seen new.told old.failed_dials new.failed_dials
    c.run-end.result.why c.run-end.ensures.cause
