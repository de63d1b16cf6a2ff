use Rattle.std.proofs.Common.{ap, ◌∙◌, subst}
use Rattle.cts_turn.specs.Passes.{view}
use Rattle.cts_entry.specs.Histories.{is_connected}
use Rattle.cts_worker.specs.Holds.{Adds}
use Rattle.cts_line.specs.Doing.{PostsIn}
use Rattle.cts_worker.proofs.Holdings.{a_held, kept_connected, new_by}
use Rattle.cts_line.proofs.holds.post.Goals as goal

pub post-posting-requires-clause-on : goal.post-posting-requires-clause-on
post-posting-requires-clause-on g c =
    let e = c.enter-held.ensures in
    ap (λ s. is_connected c.args.by s.entries) c.state_mut.ensures.value ∙ (kept_connected c.args.by (view c.args.pass) _ c.enter-held.result.state e.view e.seen e.own c.requires.by ∙ c.requires.on)

pub leave-requires-clause-new : goal.leave-requires-clause-new
leave-requires-clause-new g c =
    let e = c.enter-held.ensures in
    new_by c.args.by (view c.args.pass) _ c.enter-held.result.state e.view e.seen e.own c.requires.by c.post-posting.new.hall
    (subst (λ s. Adds c.args.by s c.post-posting.new.hall) c.state_mut.ensures.value c.post-posting.ensures.adds)

pub returns-clause-hold : goal.returns-clause-hold
returns-clause-hold g c =
    let e = c.enter-held.ensures in
    let did = subst (λ s. PostsIn c.args.by c.time_of.result s c.args.connection.now c.args.piece.now c.post-posting.result c.post-posting.new.hall c.post-posting.new.connection) c.state_mut.ensures.value c.post-posting.ensures.posts in (
      c.time_of.result,
      (c.enter-held.result.state, c.post-posting.new.hall, e.basis, a_held c.args.by (view c.args.pass) _ c.enter-held.result.state e.view e.seen e.own c.requires.by c.post-posting.new.hall _ c.leave.ensures.view, did),
    )
