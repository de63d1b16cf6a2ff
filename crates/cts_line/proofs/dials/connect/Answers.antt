use Rattle.std.proofs.Common.{[], Some, None, subst, ap, arith, ◌∙◌, refl, rules}
use Rattle.cts_table.specs.contracts.hall.HallStands.TheImpl.{ghosts as hall}
use Rattle.cts_turn.specs.Lists.{has}
use Rattle.cts_turn.specs.Passes.{basis_of, view}
use Rattle.cts_connection.specs.Routings.{site_routing}
use Rattle.cts_line.proofs.Rows.{settles_rows}
use Rattle.cts_line.specs.Ending.{Heeds, stops_then}
use Rattle.cts_line.specs.Talks.{room_of}
use Rattle.cts_line.proofs.Chaining.{same_self, suits_same}
use Rattle.cts_connection.proofs.Gathering.{same_then}
use Rattle.cts_line.proofs.Dialing.{count_kept, faults_none, faults_same, faults_then, shut_kept, so_far_none, so_far_some, stop_keeps, stop_same_look, stop_settled}
use Rattle.cts_worker.proofs.Onwards.{onward_hold, onward_same, onward_then}
use Rattle.cts_line.proofs.Telling.{retells_has, retells_same, retells_then}
use Rattle.cts_line.proofs.Heeding.{heeds_kept, heeds_quiet, heeds_then}
use Rattle.cts_line.proofs.Finishing.{dials_by, dials_still, dials_then}
use Rattle.cts_line.specs.declared.ending.LineWhy.TheVariants.{Stopped}
use Rattle.cts_line.proofs.dials.connect.Goals as goal

pub returns-then-stop-clause-faults : goal.returns-then-stop-clause-faults
returns-then-stop-clause-faults g c =
    let v = view c.dials.pass in
    let w = view c.sees_stop-next.result.0 in
    faults_then c.args.hand.now.by (view c.args.pass).seen v.seen w.seen _ _ _ c.dials.invariant.faults
    (faults_none c.args.hand.now.by v.seen w.seen _ _ (stop_keeps (basis_of hall.basis c.args.hand.now.turn.now) c.args.hand.now.by v w c.sees_stop-next.ensures.hold) refl)

pub returns-then-stop-clause-told : goal.returns-then-stop-clause-told
returns-then-stop-clause-told g c =
    let base = basis_of hall.basis c.args.hand.now.turn.now in
    let v = view c.dials.pass in
    let w = view c.sees_stop-next.result.0 in
    λ k has t. settles_rows (site_routing base.site) (room_of base) c.args.hand.now.by w.found w.seen _ (stop_settled base c.args.hand.now.by v w c.sees_stop-next.ensures.hold _ (c.dials.invariant.settled k has t))

pub attempt-next-requires-clause-ready : goal.attempt-next-requires-clause-ready
attempt-next-requires-clause-ready g c =
    let v = view c.dials.pass in
    let w = view c.sees_stop-next.result.0 in
    let keeps = stop_keeps (basis_of hall.basis c.args.hand.now.turn.now) c.args.hand.now.by v w c.sees_stop-next.ensures.hold in
    let on = onward_hold c.args.hand.now.by v w [] c.sees_stop-next.ensures.hold in record {
      makers = ap (has c.args.hand.now.by) on.makers ∙ c.dials.invariant.by;
      site_is = c.requires.ready.site_is;
      line = c.requires.ready.line;
      suits = c.dials.invariant.suits;
      shut = shut_kept c.args.hand.now.by v.seen w.seen keeps c.dials.invariant.shut;
      count = count_kept c.args.hand.now.by v.seen w.seen c.dials.connections keeps c.dials.invariant.count;
    }

pub returns-in-Some-end-clause-faults : goal.returns-in-Some-end-clause-faults
returns-in-Some-end-clause-faults g c =
    let v = view c.dials.pass in
    let w = view c.sees_stop-next.result.0 in
    let x = view c.attempt-next.result.0 in
    faults_then c.args.hand.now.by (view c.args.pass).seen w.seen x.seen _ _ _
    (faults_then c.args.hand.now.by (view c.args.pass).seen v.seen w.seen _ _ _ c.dials.invariant.faults
    (faults_none c.args.hand.now.by v.seen w.seen _ _ (stop_keeps (basis_of hall.basis c.args.hand.now.turn.now) c.args.hand.now.by v w c.sees_stop-next.ensures.hold) refl))
    c.attempt-next.ensures.faults

pub dials-init : goal.dials-init
dials-init g c = record {
  next = search rules;
  pass = c.requires.pass;
  by = c.requires.ready.makers;
  onward = onward_same (view c.args.pass);
  idle = c.requires.idle;
  room = refl;
  same = same_self c.args.connection.now.chain;
  suits = c.requires.ready.suits;
  shut = c.requires.ready.shut;
  count = c.requires.ready.count;
  faults = faults_same c.args.hand.now.by (view c.args.pass).seen _;
  dials = dials_still c.args.hand.now.site.now c.args.hand.now.by None (g.D.Link.seen c.args.dialer.now) refl;
  heeds = heeds_kept c.args.hand.now.by (view c.args.pass).seen (view c.args.pass).seen None (λ test. refl);
  once = λ off. refl;
  stop = refl;
  retells = retells_same _;
  settled = λ k has t. t;
  some = λ t. t;
}

pub dials-preserved : goal.dials-preserved
dials-preserved g c =
    let base = basis_of hall.basis c.args.hand.now.turn.now in
    let u = view c.args.pass in
    let v = view c.dials.pass in
    let w = view c.sees_stop-next.result.0 in
    let x = view c.attempt-next.result.0 in
    let i = c.dials.invariant in
    let e = c.attempt-next.ensures in
    let looked = stop_keeps base c.args.hand.now.by v w c.sees_stop-next.ensures.hold in
    let on = onward_then v w x (onward_hold c.args.hand.now.by v w [] c.sees_stop-next.ensures.hold) e.onward in record {
      next = tt;
      pass = e.pass;
      by = ap (has c.args.hand.now.by) on.makers ∙ i.by;
      onward = onward_then u v x i.onward on;
      idle = e.idle;
      room = e.room ∙ i.room;
      same = same_then c.args.connection.now.chain c.dials.connection.chain c.attempt-next.new.connection.chain i.same e.same;
      suits = suits_same _ c.args.hand.now.by c.dials.connection.chain c.attempt-next.new.connection.chain e.same i.suits;
      shut = e.between.shut;
      count = e.between.count;
      faults = faults_then c.args.hand.now.by u.seen w.seen x.seen _ _ _ (faults_then c.args.hand.now.by u.seen v.seen w.seen _ _ _ i.faults (faults_none c.args.hand.now.by v.seen w.seen _ _ looked refl)) e.faults;
      dials = dials_then c.args.hand.now.site.now c.args.hand.now.by None _ _ _ i.dials (dials_by c.args.hand.now.site.now c.args.hand.now.by _ None _ _ c.in_default.is e.dials);
      heeds = heeds_then c.args.hand.now.by u.seen v.seen x.seen None i.heeds
          (heeds_then c.args.hand.now.by v.seen w.seen x.seen None (heeds_quiet c.args.hand.now.by v.seen w.seen None looked)
          (subst (Heeds c.args.hand.now.by w.seen x.seen) c.in_default.is e.minds.heeds));
      once = λ off. e.opens.again off c.in_default.is ∙ (looked.opened ∙ i.once off);
      stop = e.minds.stop (ap stops_then c.in_default.is) ∙ (stop_same_look base c.args.hand.now.by v w c.sees_stop-next.ensures.hold ∙ i.stop);
      retells = retells_then _ _ _ i.retells e.retells;
      settled = λ k has t.
          so_far_none (site_routing base.site) (room_of base) c.args.hand.now.by x.found x.seen _ _ c.in_default.is
          (e.told k (retells_has k _ _ i.retells has) (stop_settled base c.args.hand.now.by v w c.sees_stop-next.ensures.hold _ (i.settled k has t)));
      some = λ t.
          let s = i.some t in
          let u = e.some (s.0, stop_settled base c.args.hand.now.by v w c.sees_stop-next.ensures.hold (Some s.0) s.1) in
          (u.0, so_far_none (site_routing base.site) (room_of base) c.args.hand.now.by x.found x.seen (Some u.0) _ c.in_default.is u.1);
    }

pub returns-then-stop-clause-once : goal.returns-then-stop-clause-once
returns-then-stop-clause-once g c =
    let v = view c.dials.pass in
    let w = view c.sees_stop-next.result.0 in
    let k = stop_keeps (basis_of hall.basis c.args.hand.now.turn.now) c.args.hand.now.by v w c.sees_stop-next.ensures.hold in
    λ off. (let a = k.opened in let b = c.dials.invariant.once off in omega (arith, a, b))

pub returns-in-Some-end-clause-once : goal.returns-in-Some-end-clause-once
returns-in-Some-end-clause-once g c =
    let v = view c.dials.pass in
    let w = view c.sees_stop-next.result.0 in
    let k = stop_keeps (basis_of hall.basis c.args.hand.now.turn.now) c.args.hand.now.by v w c.sees_stop-next.ensures.hold in
    λ off. (let a = k.opened in let b = c.dials.invariant.once off in let f = c.attempt-next.ensures.opens.few in omega (arith, a, b, f))

pub returns-in-Some-end-clause-told : goal.returns-in-Some-end-clause-told
returns-in-Some-end-clause-told g c =
    let base = basis_of hall.basis c.args.hand.now.turn.now in
    let v = view c.dials.pass in
    let w = view c.sees_stop-next.result.0 in
    let x = view c.attempt-next.result.0 in
    let i = c.dials.invariant in
    λ k has t.
    so_far_some (site_routing base.site) (room_of base) c.args.hand.now.by x.found x.seen _ _ c.in-Some-end.why c.in-Some-end.is
    (c.attempt-next.ensures.told k (retells_has k _ _ i.retells has) (stop_settled base c.args.hand.now.by v w c.sees_stop-next.ensures.hold _ (i.settled k has t)))

pub returns-in-Some-end-clause-retells : goal.returns-in-Some-end-clause-retells
returns-in-Some-end-clause-retells g c = retells_then _ _ _ c.dials.invariant.retells c.attempt-next.ensures.retells

pub returns-then-stop-clause-onward : goal.returns-then-stop-clause-onward
returns-then-stop-clause-onward g c = onward_then _ _ _ c.dials.invariant.onward (onward_hold c.args.hand.now.by _ _ [] c.sees_stop-next.ensures.hold)

pub returns-in-Some-end-clause-onward : goal.returns-in-Some-end-clause-onward
returns-in-Some-end-clause-onward g c = onward_then _ _ _ (onward_then _ _ _ c.dials.invariant.onward (onward_hold c.args.hand.now.by _ _ [] c.sees_stop-next.ensures.hold)) c.attempt-next.ensures.onward

pub returns-in-Some-end-clause-same : goal.returns-in-Some-end-clause-same
returns-in-Some-end-clause-same g c = same_then c.args.connection.now.chain c.dials.connection.chain c.attempt-next.new.connection.chain c.dials.invariant.same c.attempt-next.ensures.same

pub returns-then-stop-clause-dials : goal.returns-then-stop-clause-dials
returns-then-stop-clause-dials g c =
    dials_then c.args.hand.now.site.now c.args.hand.now.by (Some Stopped) _ _ _ c.dials.invariant.dials
    (dials_still c.args.hand.now.site.now c.args.hand.now.by (Some Stopped) (g.D.Link.seen c.dials.dialer) refl)

pub returns-in-Some-end-clause-dials : goal.returns-in-Some-end-clause-dials
returns-in-Some-end-clause-dials g c =
    dials_then c.args.hand.now.site.now c.args.hand.now.by (Some c.in-Some-end.why) _ _ _ c.dials.invariant.dials
    (dials_by c.args.hand.now.site.now c.args.hand.now.by _ (Some c.in-Some-end.why) _ _ c.in-Some-end.is c.attempt-next.ensures.dials)

pub returns-then-stop-clause-some : goal.returns-then-stop-clause-some
returns-then-stop-clause-some g c =
    let base = basis_of hall.basis c.args.hand.now.turn.now in
    let v = view c.dials.pass in
    let w = view c.sees_stop-next.result.0 in
    λ t.
    let s = c.dials.invariant.some t in (
      s.0,
      settles_rows (site_routing base.site) (room_of base) c.args.hand.now.by w.found w.seen (Some s.0)
          (stop_settled base c.args.hand.now.by v w c.sees_stop-next.ensures.hold (Some s.0) s.1),
    )

pub returns-in-Some-end-clause-some : goal.returns-in-Some-end-clause-some
returns-in-Some-end-clause-some g c =
    let base = basis_of hall.basis c.args.hand.now.turn.now in
    let v = view c.dials.pass in
    let w = view c.sees_stop-next.result.0 in
    let x = view c.attempt-next.result.0 in
    λ t.
    let s = c.dials.invariant.some t in
    let u = c.attempt-next.ensures.some (s.0, stop_settled base c.args.hand.now.by v w c.sees_stop-next.ensures.hold (Some s.0) s.1) in
    (u.0, so_far_some (site_routing base.site) (room_of base) c.args.hand.now.by x.found x.seen (Some u.0) _ c.in-Some-end.why c.in-Some-end.is u.1)

pub returns-then-stop-clause-between : goal.returns-then-stop-clause-between
returns-then-stop-clause-between g c =
    let v = view c.dials.pass in
    let w = view c.sees_stop-next.result.0 in
    let keeps = stop_keeps (basis_of hall.basis c.args.hand.now.turn.now) c.args.hand.now.by v w c.sees_stop-next.ensures.hold in record {
      shut = shut_kept c.args.hand.now.by v.seen w.seen keeps c.dials.invariant.shut;
      count = count_kept c.args.hand.now.by v.seen w.seen c.dials.connections keeps c.dials.invariant.count;
    }

pub returns-in-Some-end-clause-between : goal.returns-in-Some-end-clause-between
returns-in-Some-end-clause-between g c = c.attempt-next.ensures.between

pub returns-then-stop-clause-minds : goal.returns-then-stop-clause-minds
returns-then-stop-clause-minds g c =
    let base = basis_of hall.basis c.args.hand.now.turn.now in
    let by = c.args.hand.now.by in
    let u = view c.args.pass in
    let v = view c.dials.pass in
    let w = view c.sees_stop-next.result.0 in
    let looked = stop_keeps base by v w c.sees_stop-next.ensures.hold in record {
      stop = λ off. stop_same_look base by v w c.sees_stop-next.ensures.hold ∙ c.dials.invariant.stop;
      heeds = heeds_then by u.seen v.seen w.seen _ c.dials.invariant.heeds (heeds_quiet by v.seen w.seen _ looked);
    }

pub returns-in-Some-end-clause-minds : goal.returns-in-Some-end-clause-minds
returns-in-Some-end-clause-minds g c =
    let base = basis_of hall.basis c.args.hand.now.turn.now in
    let by = c.args.hand.now.by in
    let u = view c.args.pass in
    let v = view c.dials.pass in
    let w = view c.sees_stop-next.result.0 in
    let x = view c.attempt-next.result.0 in
    let looked = stop_keeps base by v w c.sees_stop-next.ensures.hold in record {
      stop = λ off. c.attempt-next.ensures.minds.stop (ap stops_then c.in-Some-end.is ∙ off)
          ∙ (stop_same_look base by v w c.sees_stop-next.ensures.hold ∙ c.dials.invariant.stop);
      heeds = heeds_then by u.seen v.seen x.seen _ c.dials.invariant.heeds
          (heeds_then by v.seen w.seen x.seen _ (heeds_quiet by v.seen w.seen None looked)
          (subst (Heeds by w.seen x.seen) c.in-Some-end.is c.attempt-next.ensures.minds.heeds));
    }
