use Rattle.std.proofs.Common.{Bool, ap, subst, sym, ◌∙◌}
use Rattle.cts_http.specs.Readings.{Reading}
use Rattle.cts_turn.specs.Passes.{view}
use Rattle.cts_worker.specs.Grounds.{ground}
use Rattle.cts_desk.specs.Serving.{Serving, halts_or}
use Rattle.cts_desk.proofs.Steps.{serving_begins, serving_ends}
use Rattle.cts_desk.proofs.Faulting.{hang_rises, rise_then}
use Rattle.cts_desk.proofs.Aiming.{aim_hung}
use Rattle.cts_desk.proofs.dials.attend.Goals as goal

pub returns-clause-serves : goal.returns-clause-serves
returns-clause-serves g c = λ n was s.
    let begins = serving_begins (g.S.Source.going c.args.talk.source n (ground c.args.hand.now.turn.now) c.args.hand.now.by) was c.new-reader.result c.args.talk.fronts.items (view c.args.talk.pass) (g.R.Link.seen c.args.door.now).told c.new-reader.ensures.stands (ap (λ (r : Reading). r.left) c.new-reader.ensures.fresh) s in
    serving_ends (g.S.Source.going c.talk-talk.result.0.source n (ground c.args.hand.now.turn.now) c.args.hand.now.by) was c.talk-talk.new.reader c.is_stop.result c.talk-talk.result.0.fronts.items (view c.talk-talk.result.0.pass) _ _ c.hang_up.ensures.content
    (subst (λ (x : Bool). Serving (g.S.Source.going c.talk-talk.result.0.source n (ground c.args.hand.now.turn.now) c.args.hand.now.by) was (halts_or x) c.talk-talk.result.0.fronts.items (view c.talk-talk.result.0.pass) c.talk-talk.new.reader (g.R.Link.seen c.talk-talk.new.door).told) (sym c.is_stop.ensures) (c.talk-talk.ensures.serves n was begins))

pub returns-clause-faults : goal.returns-clause-faults
returns-clause-faults g c = rise_then (g.R.Link.seen c.args.door.now) (g.R.Link.seen c.talk-talk.new.door) (g.R.Link.seen c.hang_up.new.self) c.talk-talk.ensures.faults (hang_rises (g.R.Link.seen c.talk-talk.new.door) (g.R.Link.seen c.hang_up.new.self) c.hang_up.ensures.content c.hang_up.ensures.faults)

pub returns-clause-aim : goal.returns-clause-aim
returns-clause-aim g c = aim_hung _ _ c.hang_up.ensures.content ∙ c.talk-talk.ensures.aim
