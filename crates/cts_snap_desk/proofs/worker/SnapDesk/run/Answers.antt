use Rattle.std.proofs.Common.{◌≡◌, Bool, List, ℕ, [], ap, subst, sym, false, ◌∙◌}
use Rattle.cts_turn.specs.Passes.{view}
use Rattle.cts_entry.specs.Histories.{is_stopped}
use Rattle.cts_desk.specs.Ending.{CausesEnd, stops_all}
use Rattle.cts_desk.specs.Serving.{Resting}
use Rattle.cts_desk.specs.Told.{past_of}
use Rattle.cts_desk.specs.declared.ending.DeskWhy.{DeskWhy}
use Rattle.cts_worker.specs.Grounds.{ground}
use Rattle.cts_outside.specs.Lines.{hung_up, told_after}
use Rattle.cts_worker.proofs.Lasting.{ended_last, ended_onward}
use Rattle.cts_desk.proofs.Ends.{causes_stay}
use Rattle.cts_desk.proofs.Histories.{desk_may_end}
use Rattle.cts_trace.proofs.Others.{strange_ended}
use Rattle.cts_desk.proofs.Steps.{resting_first}
use Rattle.cts_desk.proofs.Faulting.{hang_rises, rise_then}
use Rattle.cts_desk.proofs.Aiming.{aim_hung}
use Rattle.cts_snap_desk.specs.Ending.{SnapEnds, desk_why, of_desk}
use Rattle.cts_snap_desk.specs.Reading.{SnapGoing}
use Rattle.cts_snap_desk.proofs.Lasting.{going_first, snap_ends, why_back}
use Rattle.cts_snap_desk.proofs.worker.SnapDesk.run.Goals as goal

pub connect-talk-requires-clause-ready : goal.connect-talk-requires-clause-ready
connect-talk-requires-clause-ready g c = record { makers = c.requires.by; desk = c.requires.desk; active = strange_ended c.args.by (view c.args.pass).seen c.requires.new }

pub connect-talk-requires-clause-fits : goal.connect-talk-requires-clause-fits
connect-talk-requires-clause-fits g c = ap (λ p. (g.P.Pane.basis p).site) c.new-source.ensures.pane ∙ c.requires.site

pub end-pass-requires-clause-by : goal.end-pass-requires-clause-by
end-pass-requires-clause-by g c = c.connect-talk.ensures.ready.makers

pub end-pass-requires-clause-may : goal.end-pass-requires-clause-may
end-pass-requires-clause-may g c = desk_may_end (ground c.args.turn.now) c.args.by (view c.connect-talk.result.0.pass) c.connect-talk.ensures.ready

pub returns-clause-site : goal.returns-clause-site
returns-clause-site g c = ap (λ p. (g.P.Pane.basis p).site) c.into_pane-reader.ensures ∙ c.connect-talk.ensures.fits

pub returns-clause-ends : goal.returns-clause-ends
returns-clause-ends g c =
    let b = ground c.args.turn.now in
    let by = c.args.by in
    let u = view c.args.pass in
    let v = view c.connect-talk.result.0.pass in
    let w = view c.end-pass.result in
    let at_first = (g.R.Link.seen c.args.door.now).told in
    let hung = (g.R.Link.seen c.hang_up.new.self).told in
    let told = (g.R.Link.seen c.connect-talk.new.door).told in
    let was = past_of (told_after hung_up at_first) in
    let n = g.P.Pane.refused c.args.reader in
    let none = going_first (g.P.Pane.basis c.args.reader) (g.P.Pane.list c.args.reader) n b by u c.requires.new in
    let zero = resting_first (SnapGoing (g.P.Pane.basis c.args.reader) (g.P.Pane.list c.args.reader) n 0 n b by) u at_first hung none c.hang_up.ensures.content in
    let one = subst (λ (k : ℕ). Resting (SnapGoing (g.P.Pane.basis c.args.reader) (g.P.Pane.list c.args.reader) n k n b by) was false [] u hung) (sym c.new-source.ensures.floor) zero in
    let two = subst (λ p. Resting (SnapGoing (g.P.Pane.basis p) (g.P.Pane.list p) (g.P.Pane.refused p) c.new-source.result.floor n b by) was false [] u hung) (sym c.new-source.ensures.pane) one in
    let pane = c.new-source.result.pane in
    let first = subst (λ (l : List ℕ). Resting (SnapGoing (g.P.Pane.basis pane) (g.P.Pane.list pane) (g.P.Pane.refused pane) c.new-source.result.floor n b by) was false l u hung) (sym c.new-fronts.ensures.items) two in
    let rests = c.connect-talk.ensures.serves n was first in
    let s = c.connect-talk.result.0.source in
    let q = s.pane in
    let fronts = c.connect-talk.result.0.fronts.items in
    let ends = snap_ends (g.P.Pane.basis q) (g.P.Pane.list q) (g.P.Pane.refused q) s.floor n b by was (is_stopped v.seen) c.stops_all.result c.time_of.result fronts v w told c.end-pass.ensures.ended (λ e. e) rests in
    let stops = stops_all (desk_why c.of_desk-why.result) in
    let named = subst (λ (x : Bool). SnapEnds b by x (g.P.Pane.basis q) (g.P.Pane.list q) n (g.P.Pane.refused q) fronts w was told) c.stops_all.ensures ends in
    let listed = subst (λ (l : List ℕ). SnapEnds b by stops (g.P.Pane.basis q) (g.P.Pane.list q) n (g.P.Pane.refused q) l w was told) (sym c.of-fronts.ensures) named in
    subst (λ p. SnapEnds b by stops (g.P.Pane.basis p) (g.P.Pane.list p) n (g.P.Pane.refused p) c.of-fronts.result w was told) (sym c.into_pane-reader.ensures) listed

pub returns-clause-ended : goal.returns-clause-ended
returns-clause-ended g c = ended_last c.args.by c.time_of.result c.stops_all.result (view c.connect-talk.result.0.pass) (view c.end-pass.result) c.end-pass.ensures.ended

pub returns-clause-failed : goal.returns-clause-failed
returns-clause-failed g c apart = c.connect-talk.ensures.failed (λ is. apart (c.of_desk-why.ensures ∙ ap of_desk is)) ∙ c.hang_up.ensures.dials

pub returns-clause-faults : goal.returns-clause-faults
returns-clause-faults g c =
    rise_then (g.R.Link.seen c.args.door.now) (g.R.Link.seen c.hang_up.new.self) (g.R.Link.seen c.connect-talk.new.door)
    (hang_rises (g.R.Link.seen c.args.door.now) (g.R.Link.seen c.hang_up.new.self) c.hang_up.ensures.content c.hang_up.ensures.faults) c.connect-talk.ensures.faults

pub returns-clause-aim : goal.returns-clause-aim
returns-clause-aim g c = c.connect-talk.ensures.aim ∙ aim_hung _ _ c.hang_up.ensures.content

pub returns-clause-cause : goal.returns-clause-cause
returns-clause-cause g c =
    let v = view c.connect-talk.result.0.pass in
    let w = view c.end-pass.result in
    let new = g.R.Link.seen c.connect-talk.new.door in
    let on = ended_onward c.args.by c.time_of.result c.stops_all.result v w c.end-pass.ensures.ended in
    let same : desk_why c.of_desk-why.result ≡ c.connect-talk.result.1 = ap desk_why c.of_desk-why.ensures ∙ why_back c.connect-talk.result.1 in
    subst (λ (y : DeskWhy). CausesEnd w.seen new.told (g.R.Link.seen c.args.door.now).failed_dials new.failed_dials y) (sym same)
    (subst (λ (n : ℕ). CausesEnd w.seen new.told n new.failed_dials c.connect-talk.result.1) c.hang_up.ensures.dials
    (causes_stay v w new.told _ new.failed_dials c.connect-talk.result.1 on c.connect-talk.ensures.cause))
