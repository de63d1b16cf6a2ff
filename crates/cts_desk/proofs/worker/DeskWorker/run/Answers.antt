use Rattle.std.proofs.Common.{Bool, List, ℕ, subst, sym, false, ◌∙◌}
use Rattle.cts_turn.specs.Passes.{view}
use Rattle.cts_entry.specs.Histories.{is_stopped}
use Rattle.cts_desk.specs.Ending.{CausesEnd, stops_all}
use Rattle.cts_worker.specs.Grounds.{ground}
use Rattle.cts_desk.specs.Growing.{going_begins}
use Rattle.cts_desk.specs.Serving.{Going, Resting}
use Rattle.cts_desk.specs.Told.{Ends, past_of}
use Rattle.cts_outside.specs.Lines.{hung_up, told_after}
use Rattle.cts_worker.proofs.Lasting.{ended_last, ended_onward}
use Rattle.cts_desk.proofs.Ends.{causes_stay}
use Rattle.cts_desk.proofs.Histories.{desk_may_end}
use Rattle.cts_trace.proofs.Others.{strange_ended}
use Rattle.cts_desk.proofs.Steps.{resting_ends, resting_first}
use Rattle.cts_desk.proofs.Faulting.{hang_rises, rise_then}
use Rattle.cts_desk.proofs.Aiming.{aim_hung}
use Rattle.cts_desk.proofs.worker.DeskWorker.run.Goals as goal

pub connect-talk-requires-clause-ready : goal.connect-talk-requires-clause-ready
connect-talk-requires-clause-ready g c = record { makers = c.requires.by; desk = c.requires.desk; active = strange_ended c.args.by (view c.args.pass).seen c.requires.new }

pub end-pass-requires-clause-by : goal.end-pass-requires-clause-by
end-pass-requires-clause-by g c = c.connect-talk.ensures.ready.makers

pub end-pass-requires-clause-may : goal.end-pass-requires-clause-may
end-pass-requires-clause-may g c = desk_may_end (ground c.args.turn.now) c.args.by (view c.connect-talk.result.0.pass) c.connect-talk.ensures.ready

pub returns-clause-ends : goal.returns-clause-ends
returns-clause-ends g c =
    let b = ground c.args.turn.now in
    let u = view c.args.pass in
    let v = view c.connect-talk.result.0.pass in
    let w = view c.end-pass.result in
    let at_first = (g.R.Link.seen c.args.door.now).told in
    let hung = (g.R.Link.seen c.hang_up.new.self).told in
    let told = (g.R.Link.seen c.connect-talk.new.door).told in
    let was = past_of (told_after hung_up at_first) in
    let first = subst (λ (l : List ℕ). Resting (Going b c.args.by) was false l u hung) (sym c.new.ensures.items) (resting_first (Going b c.args.by) u at_first hung (going_begins b c.args.by u c.requires.new) c.hang_up.ensures.content) in
    let rests = c.connect-talk.ensures.serves 0 was first in
    let fronts = c.connect-talk.result.0.fronts.items in
    let ends = resting_ends b c.args.by was (is_stopped v.seen) c.stops_all.result c.time_of.result fronts v w told c.end-pass.ensures.ended (λ e. e) rests in
    subst (λ (l : List ℕ). Ends b c.args.by (stops_all c.connect-talk.result.1) l w was told) (sym c.of.ensures)
    (subst (λ (x : Bool). Ends b c.args.by x fronts w was told) c.stops_all.ensures ends)

pub returns-clause-ended : goal.returns-clause-ended
returns-clause-ended g c = ended_last c.args.by c.time_of.result c.stops_all.result (view c.connect-talk.result.0.pass) (view c.end-pass.result) c.end-pass.ensures.ended

pub returns-clause-failed : goal.returns-clause-failed
returns-clause-failed g c apart = c.connect-talk.ensures.failed apart ∙ c.hang_up.ensures.dials

pub returns-clause-faults : goal.returns-clause-faults
returns-clause-faults g c =
    rise_then (g.R.Link.seen c.args.door.now) (g.R.Link.seen c.hang_up.new.self) (g.R.Link.seen c.connect-talk.new.door)
    (hang_rises (g.R.Link.seen c.args.door.now) (g.R.Link.seen c.hang_up.new.self) c.hang_up.ensures.content c.hang_up.ensures.faults) c.connect-talk.ensures.faults

pub returns-clause-aim : goal.returns-clause-aim
returns-clause-aim g c = c.connect-talk.ensures.aim ∙ aim_hung _ _ c.hang_up.ensures.content

pub returns-clause-cause : goal.returns-clause-cause
returns-clause-cause g c =
    let v = view c.connect-talk.result.0.pass in
    let w = view c.end-pass.result in
    let new = g.R.Link.seen c.connect-talk.new.door in
    let on = ended_onward c.args.by c.time_of.result c.stops_all.result v w c.end-pass.ensures.ended in
    subst (λ (n : ℕ). CausesEnd w.seen new.told n new.failed_dials c.connect-talk.result.1) c.hang_up.ensures.dials
    (causes_stay v w new.told _ new.failed_dials c.connect-talk.result.1 on c.connect-talk.ensures.cause)
