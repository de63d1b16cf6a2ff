use Rattle.std.proofs.Common.{[], sym, append-nil}
use Rattle.cts_turn.specs.Passes.{view}
use Rattle.cts_worker.proofs.Holdings.{a_held, hold_of, nothing_new}
use Rattle.cts_publisher.proofs.looking.look.Goals as goal

pub leave-requires-clause-new : goal.leave-requires-clause-new
leave-requires-clause-new g c =
    let e = c.enter-held.ensures in
    nothing_new 29 (view c.args.pass) _ c.enter-held.result.state e.view e.seen e.own c.requires.by

pub returns-clause-hold : goal.returns-clause-hold
returns-clause-hold g c =
    let e = c.enter-held.ensures in
    let s = c.enter-held.result.state in
    hold_of 29 (view c.args.pass) _ s s [] (a_held 29 (view c.args.pass) _ s e.view e.seen e.own c.requires.by s _ c.leave.ensures.view) (sym (append-nil s.entries))
