use Rattle.std.proofs.Common.{None, Some, arith, refl}
use Rattle.cts_outside.specs.Lines.{after_dial}
use Rattle.cts_outside.specs.declared.link.Dialed.TheVariants.{Linked, Later, Finished, Failed}
use Rattle.cts_table.specs.contracts.hall.HallStands.TheImpl.{ghosts as hall}
use Rattle.cts_turn.specs.Passes.{basis_of, view}
use Rattle.cts_connection.specs.Routings.{site_routing}
use Rattle.cts_line.proofs.Rows.{settles_rows}
use Rattle.cts_line.specs.Talks.{room_of}
use Rattle.cts_line.proofs.Dialing.{begins_linked, never_both, finishes_settled, nothing_dialed, so_far}
use Rattle.cts_line.proofs.Telling.{retells_dial, retells_has, retells_then, since_dial}
use Rattle.cts_line.proofs.Heeding.{heeds_kept}
use Rattle.cts_line.proofs.Finishing.{dials_failed, dials_idle}
use Rattle.cts_line.proofs.dials.attempt.Goals as goal

pub returns-in-Linked-clause-told : goal.returns-in-Linked-clause-told
returns-in-Linked-clause-told g c =
    let base = basis_of hall.basis c.args.hand.now.turn.now in
    let v = view c.args.pass in
    λ k has t.
    c.attend.ensures.told k (retells_has k _ _ (retells_dial Linked _ _ c.in-Linked.ensures.content) has)
    (begins_linked (site_routing base.site) (room_of base) c.args.hand.now.by v.found v.seen _ _ (since_dial k Linked _ _ c.in-Linked.ensures.content) t)

pub returns-in-Later-clause-told : goal.returns-in-Later-clause-told
returns-in-Later-clause-told g c =
    let base = basis_of hall.basis c.args.hand.now.turn.now in
    let v = view c.args.pass in
    λ k has t. nothing_dialed (site_routing base.site) (room_of base) c.args.hand.now.by v.found v.seen _ _ (since_dial k Later _ _ c.in-Later.ensures.content) t

pub returns-in-Finished-clause-told : goal.returns-in-Finished-clause-told
returns-in-Finished-clause-told g c =
    let base = basis_of hall.basis c.args.hand.now.turn.now in
    let v = view c.args.pass in
    λ k has t.
    settles_rows (site_routing base.site) (room_of base) c.args.hand.now.by v.found v.seen _
    (finishes_settled (site_routing base.site) (room_of base) c.args.hand.now.by v.found v.seen _ _ (since_dial k Finished _ _ c.in-Finished.ensures.content) t).0

pub returns-in-Failed-clause-told : goal.returns-in-Failed-clause-told
returns-in-Failed-clause-told g c =
    let base = basis_of hall.basis c.args.hand.now.turn.now in
    let v = view c.args.pass in
    λ k has t.
    so_far (site_routing base.site) (room_of base) c.args.hand.now.by v.found v.seen _ _
    (nothing_dialed (site_routing base.site) (room_of base) c.args.hand.now.by v.found v.seen _ _ (since_dial k Failed _ _ c.in-Failed.ensures.content) t)

pub returns-in-Linked-clause-retells : goal.returns-in-Linked-clause-retells
returns-in-Linked-clause-retells g c = retells_then _ _ _ (retells_dial Linked _ _ c.in-Linked.ensures.content) c.attend.ensures.retells

pub returns-in-Later-clause-retells : goal.returns-in-Later-clause-retells
returns-in-Later-clause-retells g c = retells_dial Later _ _ c.in-Later.ensures.content

pub returns-in-Finished-clause-retells : goal.returns-in-Finished-clause-retells
returns-in-Finished-clause-retells g c = retells_dial Finished _ _ c.in-Finished.ensures.content

pub returns-in-Failed-clause-retells : goal.returns-in-Failed-clause-retells
returns-in-Failed-clause-retells g c = retells_dial Failed _ _ c.in-Failed.ensures.content

pub returns-in-Linked-clause-some : goal.returns-in-Linked-clause-some
returns-in-Linked-clause-some g c =
    let base = basis_of hall.basis c.args.hand.now.turn.now in
    let v = view c.args.pass in
    λ t.
    c.attend.ensures.some
    (after_dial Linked t.0, begins_linked (site_routing base.site) (room_of base) c.args.hand.now.by v.found v.seen (Some t.0) _ refl t.1)

pub returns-in-Later-clause-some : goal.returns-in-Later-clause-some
returns-in-Later-clause-some g c = λ t. t

pub returns-in-Finished-clause-some : goal.returns-in-Finished-clause-some
returns-in-Finished-clause-some g c =
    let base = basis_of hall.basis c.args.hand.now.turn.now in
    let v = view c.args.pass in
    λ t. (after_dial Finished t.0, settles_rows (site_routing base.site) (room_of base) c.args.hand.now.by v.found v.seen (Some (after_dial Finished t.0)) t.1)

pub returns-in-Failed-clause-some : goal.returns-in-Failed-clause-some
returns-in-Failed-clause-some g c =
    let base = basis_of hall.basis c.args.hand.now.turn.now in
    let v = view c.args.pass in
    λ t. (t.0, so_far (site_routing base.site) (room_of base) c.args.hand.now.by v.found v.seen (Some t.0) _ t.1)

pub returns-in-Linked-clause-opens : goal.returns-in-Linked-clause-opens
returns-in-Linked-clause-opens g c = record { again = λ off none. never_both _ (c.attend.ensures.again none) off; few = c.attend.ensures.few }

pub returns-in-Later-clause-between : goal.returns-in-Later-clause-between
returns-in-Later-clause-between g c = record { shut = c.requires.ready.shut; count = c.requires.ready.count }

pub returns-in-Later-clause-minds : goal.returns-in-Later-clause-minds
returns-in-Later-clause-minds g c = record {
  stop = λ off. refl;
  heeds = heeds_kept c.args.hand.now.by (view c.args.pass).seen (view c.args.pass).seen _ (λ test. refl);
}

pub returns-in-Later-clause-opens : goal.returns-in-Later-clause-opens
returns-in-Later-clause-opens g c = record { again = λ off none. refl; few = omega arith }

pub returns-in-Finished-clause-between : goal.returns-in-Finished-clause-between
returns-in-Finished-clause-between g c = record { shut = c.requires.ready.shut; count = c.requires.ready.count }

pub returns-in-Finished-clause-minds : goal.returns-in-Finished-clause-minds
returns-in-Finished-clause-minds g c = record {
  stop = λ off. refl;
  heeds = heeds_kept c.args.hand.now.by (view c.args.pass).seen (view c.args.pass).seen _ (λ test. refl);
}

pub returns-in-Finished-clause-opens : goal.returns-in-Finished-clause-opens
returns-in-Finished-clause-opens g c = record { again = λ off none. refl; few = omega arith }

pub returns-in-Failed-clause-between : goal.returns-in-Failed-clause-between
returns-in-Failed-clause-between g c = record { shut = c.requires.ready.shut; count = c.requires.ready.count }

pub returns-in-Failed-clause-minds : goal.returns-in-Failed-clause-minds
returns-in-Failed-clause-minds g c = record {
  stop = λ off. refl;
  heeds = heeds_kept c.args.hand.now.by (view c.args.pass).seen (view c.args.pass).seen _ (λ test. refl);
}

pub returns-in-Failed-clause-opens : goal.returns-in-Failed-clause-opens
returns-in-Failed-clause-opens g c = record { again = λ off none. refl; few = omega arith }

pub returns-in-Linked-clause-dials : goal.returns-in-Linked-clause-dials
returns-in-Linked-clause-dials g c =
    dials_idle c.args.hand.now.site.now c.args.hand.now.by c.attend.result.1 (g.D.Link.seen c.args.dialer.now) (g.D.Link.seen c.dial.new.self) (g.D.Link.seen c.attend.new.dialer)
    c.in-Linked.ensures.cause c.in-Linked.ensures.finished c.attend.ensures.dials

pub returns-in-Later-clause-dials : goal.returns-in-Later-clause-dials
returns-in-Later-clause-dials g c =
    let new = g.D.Link.seen c.dial.new.self in
    dials_idle c.args.hand.now.site.now c.args.hand.now.by None (g.D.Link.seen c.args.dialer.now) new new c.in-Later.ensures.cause c.in-Later.ensures.finished
    (record { failed = refl; finished = refl })

pub returns-in-Finished-clause-dials : goal.returns-in-Finished-clause-dials
returns-in-Finished-clause-dials g c = record {
  count = (let f = c.in-Finished.ensures.cause in omega (arith, f));
  failed = λ why is apart. c.in-Finished.ensures.cause;
  finished = c.in-Finished.ensures.finished;
}

pub returns-in-Failed-clause-dials : goal.returns-in-Failed-clause-dials
returns-in-Failed-clause-dials g c =
    dials_failed c.args.hand.now.site.now c.args.hand.now.by c.after_failed.result (g.D.Link.seen c.args.dialer.now) (g.D.Link.seen c.dial.new.self) c.after_failed.ensures
    c.in-Failed.ensures.cause c.in-Failed.ensures.finished
