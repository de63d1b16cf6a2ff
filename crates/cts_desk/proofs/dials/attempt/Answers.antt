use Rattle.std.proofs.Common.{Bool, ap, subst, sym, ◌∙◌}
use Rattle.cts_turn.specs.Passes.{view}
use Rattle.cts_desk.specs.Ending.{may_cut}
use Rattle.cts_worker.specs.Grounds.{ground}
use Rattle.cts_desk.specs.Serving.{Resting}
use Rattle.cts_desk.proofs.Ends.{cut_for, failed_rests, finished_rests, later_rests, linked_begins, rests_on}
use Rattle.cts_entry.specs.Histories.{is_stopped}
use Rattle.cts_outside.specs.declared.link.Dialed.TheVariants.{Linked, Later, Finished, Failed}
use Rattle.cts_desk.proofs.Faulting.{dial_rises, rise_then}
use Rattle.cts_desk.proofs.Aiming.{aim_dial}
use Rattle.cts_desk.proofs.dials.attempt.Goals as goal

pub returns-in-Linked-clause-serves : goal.returns-in-Linked-clause-serves
returns-in-Linked-clause-serves g c = λ n was s.
    let b = ground c.args.hand.now.turn.now in
    let w = view c.attend-talk.result.0.pass in
    let begins = linked_begins (g.S.Source.going c.args.talk.source n b c.args.hand.now.by) was c.args.talk.fronts.items (view c.args.talk.pass) (g.R.Link.seen c.args.door.now).told (g.R.Link.seen c.dial.new.self).told c.in-Linked.ensures.content s in
    subst (λ (x : Bool). Resting (g.S.Source.going c.attend-talk.result.0.source n b c.args.hand.now.by) was x c.attend-talk.result.0.fronts.items w (g.R.Link.seen c.attend-talk.new.door).told)
    (cut_for c.attend-talk.result.1 c.stop_if.result w.seen c.stop_if.ensures c.attend-talk.ensures.stop) (c.attend-talk.ensures.serves n was begins)

pub returns-in-Later-clause-serves : goal.returns-in-Later-clause-serves
returns-in-Later-clause-serves g c = λ n was s.
    let b = ground c.args.hand.now.turn.now in
    let w = view c.look-talk.result.0.pass in
    let stop = may_cut c.stop_if-in-Later.result w.seen in
    let told = (g.R.Link.seen c.dial.new.self).told in
    let goes = g.S.Source.going c.args.talk.source n b c.args.hand.now.by in
    rests_on g.S.Source.going n b c.args.hand.now.by was stop c.args.talk.source c.look-talk.result.0.source c.args.talk.fronts.items c.look-talk.result.0.fronts.items w told c.look-talk.ensures.source
    (ap (λ f. f.items) c.look-talk.ensures.fronts)
    (later_rests goes was c.args.talk.fronts.items c.args.hand.now.by stop (view c.args.talk.pass) w _ told (g.met.S.Source.stays c.args.talk.source n b c.args.hand.now.by) c.in-Later.ensures.content c.look-talk.ensures.hold s)

pub returns-in-Finished-clause-serves : goal.returns-in-Finished-clause-serves
returns-in-Finished-clause-serves g c = λ n was s.
    let v = view c.args.talk.pass in
    finished_rests (g.S.Source.going c.args.talk.source n (ground c.args.hand.now.turn.now) c.args.hand.now.by) was c.args.talk.fronts.items (is_stopped v.seen) v _ (g.R.Link.seen c.dial.new.self).told c.in-Finished.ensures.content s

pub returns-in-Failed-clause-serves : goal.returns-in-Failed-clause-serves
returns-in-Failed-clause-serves g c = λ n was s.
    let v = view c.args.talk.pass in
    failed_rests (g.S.Source.going c.args.talk.source n (ground c.args.hand.now.turn.now) c.args.hand.now.by) was c.args.talk.fronts.items (is_stopped v.seen) v _ (g.R.Link.seen c.dial.new.self).told c.in-Failed.ensures.content s

pub returns-in-Linked-clause-faults : goal.returns-in-Linked-clause-faults
returns-in-Linked-clause-faults g c = rise_then (g.R.Link.seen c.args.door.now) (g.R.Link.seen c.dial.new.self) (g.R.Link.seen c.attend-talk.new.door) (dial_rises Linked (g.R.Link.seen c.args.door.now) (g.R.Link.seen c.dial.new.self) c.in-Linked.ensures.content c.in-Linked.ensures.faults) c.attend-talk.ensures.faults

pub returns-in-Later-clause-faults : goal.returns-in-Later-clause-faults
returns-in-Later-clause-faults g c = dial_rises Later (g.R.Link.seen c.args.door.now) (g.R.Link.seen c.dial.new.self) c.in-Later.ensures.content c.in-Later.ensures.faults

pub returns-in-Finished-clause-faults : goal.returns-in-Finished-clause-faults
returns-in-Finished-clause-faults g c = dial_rises Finished (g.R.Link.seen c.args.door.now) (g.R.Link.seen c.dial.new.self) c.in-Finished.ensures.content c.in-Finished.ensures.faults

pub returns-in-Failed-clause-faults : goal.returns-in-Failed-clause-faults
returns-in-Failed-clause-faults g c = dial_rises Failed (g.R.Link.seen c.args.door.now) (g.R.Link.seen c.dial.new.self) c.in-Failed.ensures.content c.in-Failed.ensures.faults

pub returns-in-Linked-clause-aim : goal.returns-in-Linked-clause-aim
returns-in-Linked-clause-aim g c = c.attend-talk.ensures.aim ∙ aim_dial Linked _ _ c.in-Linked.ensures.content

pub returns-in-Later-clause-aim : goal.returns-in-Later-clause-aim
returns-in-Later-clause-aim g c = aim_dial Later _ _ c.in-Later.ensures.content

pub returns-in-Finished-clause-aim : goal.returns-in-Finished-clause-aim
returns-in-Finished-clause-aim g c = aim_dial Finished _ _ c.in-Finished.ensures.content

pub returns-in-Failed-clause-aim : goal.returns-in-Failed-clause-aim
returns-in-Failed-clause-aim g c = aim_dial Failed _ _ c.in-Failed.ensures.content

pub returns-in-Later-clause-fits : goal.returns-in-Later-clause-fits
returns-in-Later-clause-fits g c = subst (λ x. g.S.Source.fits x (ground c.args.hand.now.turn.now)) (sym c.look-talk.ensures.source) c.requires.fits
