use Rattle.std.proofs.Common.{◌≡◌, None, Some, arith, refl, subst, sym, true}
use Rattle.cts_table.specs.contracts.hall.HallStands.TheImpl.{ghosts as hall}
use Rattle.cts_turn.specs.Passes.{basis_of, view}
use Rattle.cts_connection.specs.LinePlaces.{is_line}
use Rattle.cts_connection.specs.Routings.{site_routing}
use Rattle.cts_trace.specs.Makers.{faults_of}
use Rattle.cts_worker.specs.Counts.{RoseBy}
use Rattle.cts_worker.proofs.Lasting.{ended_last, ended_onward, ended_stops}
use Rattle.cts_worker.proofs.Onwards.{onward_then}
use Rattle.cts_line.specs.Ending.{CausesEnd, is_full, is_no_memory}
use Rattle.cts_line.specs.Telling.{Retells, made_by}
use Rattle.cts_line.specs.Talks.{room_of}
use Rattle.cts_line.proofs.Boarding.{may_end}
use Rattle.cts_line.proofs.Dialing.{last_causes, last_closed_same, last_count, last_faults_same, last_opened_same, last_stop, last_told, stops_where, untouched}
use Rattle.cts_line.proofs.Telling.{has_made, undialed_made}
use Rattle.cts_line.proofs.Heeding.{full_heeded, memory_heeded}
use Rattle.cts_line.proofs.Finishing.{dials_idle, dials_then}
use Rattle.cts_line.proofs.worker.LineWorker.run.Goals as goal

pub finish-pass-requires-clause-may : goal.finish-pass-requires-clause-may
finish-pass-requires-clause-may g c =
    let site = (basis_of hall.basis c.args.turn.now).site in
    may_end site c.args.by (view c.equip-pass.result.0).seen (subst (λ s. is_line s c.args.by ≡ true) c.requires.site c.requires.line) c.equip-pass.ensures.shut

pub returns-clause-onward : goal.returns-clause-onward
returns-clause-onward g c =
    let f = c.finish-pass.ensures.ended in
    onward_then (view c.args.pass) (view c.equip-pass.result.0) (view c.finish-pass.result) c.equip-pass.ensures.onward (ended_onward c.args.by f.0 _ (view c.equip-pass.result.0) (view c.finish-pass.result) f.1)

pub returns-clause-told : goal.returns-clause-told
returns-clause-told g c =
    let base = basis_of hall.basis c.args.turn.now in
    let f = c.finish-pass.ensures.ended in
    last_told c.args.by (view c.equip-pass.result.0) (view c.finish-pass.result) _ f.0 f.1 (site_routing c.args.site.now) (room_of base) _
    (c.equip-pass.ensures.told (made_by (g.D.Link.seen c.args.dialer.now).told) (has_made _ _ c.hang_up.ensures.content) (undialed_made _ _ c.hang_up.ensures.content))

pub returns-clause-ended : goal.returns-clause-ended
returns-clause-ended g c = let f = c.finish-pass.ensures.ended in ended_last c.args.by f.0 _ (view c.equip-pass.result.0) (view c.finish-pass.result) f.1

pub returns-clause-connections : goal.returns-clause-connections
returns-clause-connections g c =
    let f = c.finish-pass.ensures.ended in
    last_count c.args.by (view c.equip-pass.result.0) (view c.finish-pass.result) _ f.0 f.1 c.equip-pass.new.connections c.equip-pass.ensures.count c.finish-pass.ensures.few

pub returns-clause-cause : goal.returns-clause-cause
returns-clause-cause g c =
    let base = basis_of hall.basis c.args.turn.now in
    let f = c.finish-pass.ensures.ended in
    last_causes c.args.by (view c.equip-pass.result.0) (view c.finish-pass.result) _ f.0 f.1 c.args.site.now base.entries _ _ _ c.equip-pass.result.1
    (subst (λ n. CausesEnd c.args.site.now base.entries c.args.by (view c.equip-pass.result.0).seen (g.D.Link.seen c.equip-pass.new.dialer).told n (g.D.Link.seen c.equip-pass.new.dialer).failed_dials c.equip-pass.result.1) c.hang_up.ensures.dials c.equip-pass.ensures.cause)

pub returns-clause-faults : goal.returns-clause-faults
returns-clause-faults g c =
    let f = c.finish-pass.ensures.ended in
    let same = last_faults_same c.args.by (view c.equip-pass.result.0) (view c.finish-pass.result) _ f.0 f.1 in
    subst (λ n. RoseBy n (g.D.Link.seen c.args.dialer.now).faults (g.D.Link.seen c.equip-pass.new.dialer).faults) (sym same)
    (subst (λ f. RoseBy (faults_of c.args.by (view c.equip-pass.result.0).seen) f (g.D.Link.seen c.equip-pass.new.dialer).faults) c.hang_up.ensures.faults c.equip-pass.ensures.faults)

pub returns-clause-once : goal.returns-clause-once
returns-clause-once g c =
    let v = view c.equip-pass.result.0 in
    let w = view c.finish-pass.result in
    let f = c.finish-pass.ensures.ended in
    let count = last_count c.args.by v w _ f.0 f.1 c.equip-pass.new.connections c.equip-pass.ensures.count c.finish-pass.ensures.few in
    let same = last_opened_same c.args.by v w _ f.0 f.1 in
    λ off. (let o = c.equip-pass.ensures.once off in omega (arith, count, same, o))

pub returns-clause-retells : goal.returns-clause-retells
returns-clause-retells g c = subst (λ o. Retells o (g.D.Link.seen c.equip-pass.new.dialer).told) c.hang_up.ensures.content c.equip-pass.ensures.retells

pub returns-clause-some : goal.returns-clause-some
returns-clause-some g c =
    let base = basis_of hall.basis c.args.turn.now in
    let f = c.finish-pass.ensures.ended in
    let u = c.equip-pass.ensures.some in (
      u.0,
      last_told c.args.by (view c.equip-pass.result.0) (view c.finish-pass.result) _ f.0 f.1 (site_routing c.args.site.now) (room_of base) (Some u.0) u.1,
    )

pub returns-clause-stops : goal.returns-clause-stops
returns-clause-stops g c =
    let v = view c.equip-pass.result.0 in
    let w = view c.finish-pass.result in
    let f = c.finish-pass.ensures.ended in record {
      stood = ended_stops c.args.by f.0 _ v w f.1;
      own = stops_where _ _ (λ off. last_stop c.args.by v w _ f.0 f.1 off (c.equip-pass.ensures.stop off));
    }

pub returns-clause-closed : goal.returns-clause-closed
returns-clause-closed g c =
    let u = view c.args.pass in
    let v = view c.equip-pass.result.0 in
    let w = view c.finish-pass.result in
    let f = c.finish-pass.ensures.ended in
    let fresh = untouched c.args.by u.seen c.requires.new in record {
      full = full_heeded c.args.by u.seen v.seen w.seen c.equip-pass.result.1 (fresh.closed is_full)
          (last_closed_same c.args.by v w _ f.0 f.1 is_full) c.equip-pass.ensures.heeds;
      memory = memory_heeded c.args.by u.seen v.seen w.seen c.equip-pass.result.1 (fresh.closed is_no_memory)
          (last_closed_same c.args.by v w _ f.0 f.1 is_no_memory) c.equip-pass.ensures.heeds;
    }

pub returns-clause-dials : goal.returns-clause-dials
returns-clause-dials g c =
    let hung = g.D.Link.seen c.hang_up.new.self in
    dials_then c.args.site.now c.args.by (Some c.equip-pass.result.1) (g.D.Link.seen c.args.dialer.now) hung (g.D.Link.seen c.equip-pass.new.dialer)
    (dials_idle c.args.site.now c.args.by None (g.D.Link.seen c.args.dialer.now) hung hung c.hang_up.ensures.dials c.hang_up.ensures.finished (record { failed = refl; finished = refl }))
    c.equip-pass.ensures.dials
