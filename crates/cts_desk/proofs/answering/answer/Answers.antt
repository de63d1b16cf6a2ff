use Rattle.std.proofs.Common.{subst, sym, List, ℕ, ◌∙◌}
use Rattle.cts_turn.specs.Passes.{view}
use Rattle.cts_outside.specs.Lines.{LinkPuts}
use Rattle.cts_worker.specs.Grounds.{ground}
use Rattle.cts_desk.specs.Serving.{Serving, Asks, Over}
use Rattle.cts_desk.specs.Streams.{NoMemory, last_put, last_front}
use Rattle.cts_desk.proofs.Steps.{serving_unasked}
use Rattle.cts_desk.proofs.Aiming.{aim_put}
use Rattle.cts_desk.proofs.answering.answer.Goals as goal

pub returns-in-Ok-clause-serves : goal.returns-in-Ok-clause-serves
returns-in-Ok-clause-serves g c = λ n was body given s.
    c.reply_to.ensures.serves n was body given
    (subst (λ (l : List ℕ). Serving (g.S.Source.going c.args.talk.source n (ground c.args.hand.now.turn.now) c.args.hand.now.by) was (Asks body) l (view c.args.talk.pass) c.args.reader.now (g.R.Link.seen c.args.door.now).told) (sym c.in-Ok.ensures.items) s)

pub returns-in-Err-clause-serves : goal.returns-in-Err-clause-serves
returns-in-Err-clause-serves g c = λ n was body given s.
    let goes = g.S.Source.going c.args.talk.source n (ground c.args.hand.now.turn.now) c.args.hand.now.by in
    let old = (g.R.Link.seen c.args.door.now).told in
    let new = (g.R.Link.seen c.put_memory.new.door).told in
    let puts = subst (λ (l : List ℕ). LinkPuts old new (last_put NoMemory (last_front l)) c.put_memory.result) (c.as_slice.ensures.value ∙ c.in-Err.ensures.items) c.put_memory.ensures.content in
    subst (λ (l : List ℕ). Serving goes was Over l (view c.args.talk.pass) c.args.reader.now new) (sym c.in-Err.ensures.items)
    (serving_unasked goes was c.args.reader.now body c.args.talk.fronts.items (view c.args.talk.pass) old new c.put_memory.result (g.met.S.Source.counts c.args.talk.source n (ground c.args.hand.now.turn.now) c.args.hand.now.by) c.requires.open puts s)

pub returns-in-Err-clause-aim : goal.returns-in-Err-clause-aim
returns-in-Err-clause-aim g c = aim_put _ _ _ c.put_memory.result c.put_memory.ensures.content
