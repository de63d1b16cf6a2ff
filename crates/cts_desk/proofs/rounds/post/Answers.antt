use Rattle.std.proofs.Common.{subst}
use Rattle.cts_outside.specs.Lines.{LinkPuts}
use Rattle.cts_turn.specs.Passes.{view}
use Rattle.cts_worker.specs.Grounds.{ground}
use Rattle.cts_desk.specs.Streams.{NoMemory, last_put, last_front}
use Rattle.cts_desk.proofs.Aiming.{aim_put}
use Rattle.cts_desk.proofs.Steps.{serving_fed, serving_unfed}
use Rattle.cts_desk.proofs.rounds.post.Goals as goal

pub returns-in-Ok-clause-serves : goal.returns-in-Ok-clause-serves
returns-in-Ok-clause-serves g c = λ n was s.
    c.answer_all.ensures.serves n was
    (serving_fed (g.S.Source.going c.args.talk.source n (ground c.args.hand.now.turn.now) c.args.hand.now.by) was c.args.reader.now c.feed.new.self c.args.piece.now c.args.talk.fronts.items (view c.args.talk.pass) (g.R.Link.seen c.args.door.now).told c.in-Ok.ensures.stands s)

pub returns-in-Err-clause-serves : goal.returns-in-Err-clause-serves
returns-in-Err-clause-serves g c = λ n was s.
    let old = (g.R.Link.seen c.args.door.now).told in
    let new = (g.R.Link.seen c.put_memory.new.door).told in
    serving_unfed (g.S.Source.going c.args.talk.source n (ground c.args.hand.now.turn.now) c.args.hand.now.by) was c.args.reader.now c.feed.new.self c.args.piece.now c.args.talk.fronts.items (view c.args.talk.pass) old new c.put_memory.result (g.met.S.Source.counts c.args.talk.source n (ground c.args.hand.now.turn.now) c.args.hand.now.by)
    (subst (λ l. LinkPuts old new (last_put NoMemory (last_front l)) c.put_memory.result) c.as_slice.ensures.value c.put_memory.ensures.content) s

pub returns-in-Err-clause-aim : goal.returns-in-Err-clause-aim
returns-in-Err-clause-aim g c = aim_put _ _ _ c.put_memory.result c.put_memory.ensures.content
