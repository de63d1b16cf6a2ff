use Rattle.std.proofs.Common.{Some, ap, arith, refl, subst, sym, ◌∙◌}
use Rattle.std.specs.Prelude.{IfSome}
use Rattle.cts_outside.specs.Lines.{hung_up}
use Rattle.cts_table.specs.contracts.hall.HallStands.TheImpl.{ghosts as hall}
use Rattle.cts_turn.specs.Passes.{basis_of, view}
use Rattle.cts_connection.specs.Routings.{site_routing}
use Rattle.cts_line.specs.Ending.{CausesEnd, FinishesFor, Heeds, after_closed}
use Rattle.cts_line.specs.Talks.{room_of}
use Rattle.cts_line.proofs.Chaining.{suits_same}
use Rattle.cts_line.proofs.Dialing.{again_of, closed_causes, count_closed, count_kept, faults_closed, faults_none, hangs_up, opening_is, refusal, shut_closed, shut_kept, so_far}
use Rattle.cts_worker.proofs.Onwards.{onward_then}
use Rattle.cts_line.proofs.Telling.{retells_has, retells_hung, retells_then, since_hung}
use Rattle.cts_line.proofs.Heeding.{heeds_closed, heeds_quiet}
use Rattle.cts_line.proofs.Finishing.{closed_finishes, refused_finishes}
use Rattle.cts_line.proofs.dials.attend.Goals as goal

pub open-pass-requires-clause-by : goal.open-pass-requires-clause-by
open-pass-requires-clause-by g c = c.requires.ready.makers

pub open-pass-requires-clause-line : goal.open-pass-requires-clause-line
open-pass-requires-clause-line g c = c.requires.ready.line

pub open-pass-requires-clause-shut : goal.open-pass-requires-clause-shut
open-pass-requires-clause-shut g c = c.requires.ready.shut

pub returns-in-Some-clause-faults : goal.returns-in-Some-clause-faults
returns-in-Some-clause-faults g c =
    let r = refusal (basis_of hall.basis c.args.hand.now.turn.now) c.args.hand.now.by (view c.args.pass) (view c.open-pass.result.0) c.args.connection.now c.open-pass.new.connection c.open-pass.result.1 c.open-pass.ensures.hold c.in-Some.why (sym c.refused.ensures ∙ c.in-Some.is) in
    faults_none c.args.hand.now.by (view c.args.pass).seen (view c.open-pass.result.0).seen _ _ r.keeps c.hang_up.ensures.faults

pub returns-in-Some-clause-told : goal.returns-in-Some-clause-told
returns-in-Some-clause-told g c =
    let r = refusal (basis_of hall.basis c.args.hand.now.turn.now) c.args.hand.now.by (view c.args.pass) (view c.open-pass.result.0) c.args.connection.now c.open-pass.new.connection c.open-pass.result.1 c.open-pass.ensures.hold c.in-Some.why (sym c.refused.ensures ∙ c.in-Some.is) in
    λ k has b. r.told _ _ (since_hung k _ _ has c.hang_up.ensures.content) b

pub talk-pass-requires-clause-on : goal.talk-pass-requires-clause-on
talk-pass-requires-clause-on g c =
    (opening_is (basis_of hall.basis c.args.hand.now.turn.now) c.args.hand.now.by (view c.args.pass) (view c.open-pass.result.0) c.args.connection.now c.open-pass.new.connection c.open-pass.result.1 c.open-pass.ensures.hold (sym c.refused.ensures ∙ c.in_default.is)).opens.on

pub talk-pass-requires-clause-suits : goal.talk-pass-requires-clause-suits
talk-pass-requires-clause-suits g c =
    let o = opening_is (basis_of hall.basis c.args.hand.now.turn.now) c.args.hand.now.by (view c.args.pass) (view c.open-pass.result.0) c.args.connection.now c.open-pass.new.connection c.open-pass.result.1 c.open-pass.ensures.hold (sym c.refused.ensures ∙ c.in_default.is) in
    suits_same _ c.args.hand.now.by c.args.connection.now.chain c.open-pass.new.connection.chain o.same c.requires.ready.suits

pub returns-clause-onward : goal.returns-clause-onward
returns-clause-onward g c =
    let o = opening_is (basis_of hall.basis c.args.hand.now.turn.now) c.args.hand.now.by (view c.args.pass) (view c.open-pass.result.0) c.args.connection.now c.open-pass.new.connection c.open-pass.result.1 c.open-pass.ensures.hold (sym c.refused.ensures ∙ c.in_default.is) in
    onward_then (view c.args.pass) (view c.open-pass.result.0) (view c.talk-pass.result.0) o.onward c.talk-pass.ensures.onward

pub returns-clause-faults : goal.returns-clause-faults
returns-clause-faults g c =
    let o = opening_is (basis_of hall.basis c.args.hand.now.turn.now) c.args.hand.now.by (view c.args.pass) (view c.open-pass.result.0) c.args.connection.now c.open-pass.new.connection c.open-pass.result.1 c.open-pass.ensures.hold (sym c.refused.ensures ∙ c.in_default.is) in
    faults_closed c.args.hand.now.by (view c.args.pass).seen (view c.open-pass.result.0).seen (view c.talk-pass.result.0).seen c.talk-pass.result.1 _ _ _ o.opens c.talk-pass.ensures.keeps c.talk-pass.ensures.cause c.hang_up-2.ensures.faults

pub returns-clause-told : goal.returns-clause-told
returns-clause-told g c =
    let base = basis_of hall.basis c.args.hand.now.turn.now in
    let v = view c.talk-pass.result.0 in
    let o = opening_is base c.args.hand.now.by (view c.args.pass) (view c.open-pass.result.0) c.args.connection.now c.open-pass.new.connection c.open-pass.result.1 c.open-pass.ensures.hold (sym c.refused.ensures ∙ c.in_default.is) in
    λ k has b.
    so_far (site_routing base.site) (room_of base) c.args.hand.now.by v.found v.seen _ _
    (hangs_up (site_routing base.site) (room_of base) c.args.hand.now.by v _ _ (since_hung k _ _ (retells_has k _ _ c.talk-pass.ensures.retells has) c.hang_up-2.ensures.content) (c.talk-pass.ensures.closed k (o.talks c.args.pass.climbing _ b)))

pub returns-in-Some-clause-few : goal.returns-in-Some-clause-few
returns-in-Some-clause-few g c =
    let r = refusal (basis_of hall.basis c.args.hand.now.turn.now) c.args.hand.now.by (view c.args.pass) (view c.open-pass.result.0) c.args.connection.now c.open-pass.new.connection c.open-pass.result.1 c.open-pass.ensures.hold c.in-Some.why (sym c.refused.ensures ∙ c.in-Some.is) in
    let k = r.keeps.opened in
    omega (arith, k)

pub returns-clause-again : goal.returns-clause-again
returns-clause-again g c = λ none. again_of c.args.hand.now.site.now c.args.hand.now.by c.talk-pass.result.1 (sym c.after_closed.ensures ∙ none)

pub returns-clause-few : goal.returns-clause-few
returns-clause-few g c =
    let o = opening_is (basis_of hall.basis c.args.hand.now.turn.now) c.args.hand.now.by (view c.args.pass) (view c.open-pass.result.0) c.args.connection.now c.open-pass.new.connection c.open-pass.result.1 c.open-pass.ensures.hold (sym c.refused.ensures ∙ c.in_default.is) in
    let k = o.opens.opened in
    let l = c.talk-pass.ensures.keeps.opened in
    omega (arith, k, l)

pub returns-in-Some-clause-retells : goal.returns-in-Some-clause-retells
returns-in-Some-clause-retells g c = retells_hung _ _ c.hang_up.ensures.content

pub returns-clause-retells : goal.returns-clause-retells
returns-clause-retells g c = retells_then _ _ _ c.talk-pass.ensures.retells (retells_hung _ _ c.hang_up-2.ensures.content)

pub returns-in-Some-clause-some : goal.returns-in-Some-clause-some
returns-in-Some-clause-some g c =
    let r = refusal (basis_of hall.basis c.args.hand.now.turn.now) c.args.hand.now.by (view c.args.pass) (view c.open-pass.result.0) c.args.connection.now c.open-pass.new.connection c.open-pass.result.1 c.open-pass.ensures.hold c.in-Some.why (sym c.refused.ensures ∙ c.in-Some.is) in
    λ t. (hung_up t.0, r.told (Some t.0) _ refl t.1)

pub returns-clause-some : goal.returns-clause-some
returns-clause-some g c =
    let base = basis_of hall.basis c.args.hand.now.turn.now in
    let v = view c.talk-pass.result.0 in
    let o = opening_is base c.args.hand.now.by (view c.args.pass) (view c.open-pass.result.0) c.args.connection.now c.open-pass.new.connection c.open-pass.result.1 c.open-pass.ensures.hold (sym c.refused.ensures ∙ c.in_default.is) in
    λ t.
    let u = c.talk-pass.ensures.some (t.0, o.talks c.args.pass.climbing (Some t.0) t.1) in (
      hung_up u.0,
      so_far (site_routing base.site) (room_of base) c.args.hand.now.by v.found v.seen (Some (hung_up u.0)) _
          (hangs_up (site_routing base.site) (room_of base) c.args.hand.now.by v (Some u.0) (Some (hung_up u.0)) refl u.1),
    )

pub returns-clause-cause : goal.returns-clause-cause
returns-clause-cause g c =
    let base = basis_of hall.basis c.args.hand.now.turn.now in
    let by = c.args.hand.now.by in
    let v = view c.talk-pass.result.0 in
    let old = g.D.Link.seen c.args.dialer.now in
    let new = g.D.Link.seen c.hang_up-2.new.self in
    let is = c.after_closed.ensures ∙ ap (λ s. after_closed s by c.talk-pass.result.1) c.requires.ready.site_is in
    subst (λ e. IfSome e (λ why. CausesEnd base.site base.entries by v.seen new.told old.failed_dials new.failed_dials why)) (sym is)
    (closed_causes base.site base.entries by v.seen new.told old.failed_dials new.failed_dials c.talk-pass.result.1 c.talk-pass.ensures.keeps.said)

pub returns-in-Some-clause-between : goal.returns-in-Some-clause-between
returns-in-Some-clause-between g c =
    let r = refusal (basis_of hall.basis c.args.hand.now.turn.now) c.args.hand.now.by (view c.args.pass) (view c.open-pass.result.0) c.args.connection.now c.open-pass.new.connection c.open-pass.result.1 c.open-pass.ensures.hold c.in-Some.why (sym c.refused.ensures ∙ c.in-Some.is) in record {
      shut = shut_kept c.args.hand.now.by (view c.args.pass).seen (view c.open-pass.result.0).seen r.keeps c.requires.ready.shut;
      count = count_kept c.args.hand.now.by (view c.args.pass).seen (view c.open-pass.result.0).seen c.args.connections.now r.keeps c.requires.ready.count;
    }

pub returns-in-Some-clause-minds : goal.returns-in-Some-clause-minds
returns-in-Some-clause-minds g c =
    let r = refusal (basis_of hall.basis c.args.hand.now.turn.now) c.args.hand.now.by (view c.args.pass) (view c.open-pass.result.0) c.args.connection.now c.open-pass.new.connection c.open-pass.result.1 c.open-pass.ensures.hold c.in-Some.why (sym c.refused.ensures ∙ c.in-Some.is) in record {
      stop = r.stop;
      heeds = heeds_quiet c.args.hand.now.by (view c.args.pass).seen (view c.open-pass.result.0).seen _ r.keeps;
    }

pub returns-clause-between : goal.returns-clause-between
returns-clause-between g c =
    let o = opening_is (basis_of hall.basis c.args.hand.now.turn.now) c.args.hand.now.by (view c.args.pass) (view c.open-pass.result.0) c.args.connection.now c.open-pass.new.connection c.open-pass.result.1 c.open-pass.ensures.hold (sym c.refused.ensures ∙ c.in_default.is) in record {
      shut = shut_closed c.args.hand.now.by (view c.args.pass).seen (view c.open-pass.result.0).seen (view c.talk-pass.result.0).seen c.talk-pass.result.1 o.opens c.talk-pass.ensures.keeps c.requires.ready.shut;
      count = count_closed c.args.hand.now.by (view c.args.pass).seen (view c.open-pass.result.0).seen (view c.talk-pass.result.0).seen c.talk-pass.result.1 c.args.connections.now c.saturating_add.result o.opens c.talk-pass.ensures.keeps c.requires.ready.count c.saturating_add.ensures;
    }

pub returns-clause-minds : goal.returns-clause-minds
returns-clause-minds g c =
    let o = opening_is (basis_of hall.basis c.args.hand.now.turn.now) c.args.hand.now.by (view c.args.pass) (view c.open-pass.result.0) c.args.connection.now c.open-pass.new.connection c.open-pass.result.1 c.open-pass.ensures.hold (sym c.refused.ensures ∙ c.in_default.is) in record {
      stop = λ off. c.talk-pass.ensures.stop ∙ o.stop;
      heeds = subst (Heeds c.args.hand.now.by (view c.args.pass).seen (view c.talk-pass.result.0).seen) (sym c.after_closed.ensures)
          (heeds_closed c.args.hand.now.site.now c.args.hand.now.by (view c.args.pass).seen (view c.open-pass.result.0).seen (view c.talk-pass.result.0).seen c.talk-pass.result.1 o.opens c.talk-pass.ensures.keeps);
    }

pub returns-in-Some-clause-dials : goal.returns-in-Some-clause-dials
returns-in-Some-clause-dials g c =
    let old = (g.D.Link.seen c.args.dialer.now).finished in
    let new = (g.D.Link.seen c.hang_up.new.self).finished in record {
      failed = c.hang_up.ensures.dials;
      finished = subst (λ e. FinishesFor e old new) (sym c.refused.ensures ∙ c.in-Some.is) (refused_finishes c.open-pass.result.1 old new c.hang_up.ensures.finished);
    }

pub returns-clause-dials : goal.returns-clause-dials
returns-clause-dials g c =
    let old = (g.D.Link.seen c.args.dialer.now).finished in
    let new = (g.D.Link.seen c.hang_up-2.new.self).finished in record {
      failed = c.hang_up-2.ensures.dials ∙ c.talk-pass.ensures.dials;
      finished = subst (λ e. FinishesFor e old new) (sym c.after_closed.ensures)
          (closed_finishes c.args.hand.now.site.now c.args.hand.now.by c.talk-pass.result.1 old new (c.hang_up-2.ensures.finished ∙ c.talk-pass.ensures.finished));
    }
