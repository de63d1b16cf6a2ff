use Rattle.std.proofs.Common.{refl}
use Rattle.cts_turn.specs.Passes.{view}
use Rattle.cts_worker.proofs.Holdings.{a_held, nothing_new}
use Rattle.cts_line.proofs.holds.look.Goals as goal

pub leave-requires-clause-new : goal.leave-requires-clause-new
leave-requires-clause-new g c =
    let e = c.enter-held.ensures in
    nothing_new c.args.by (view c.args.pass) _ c.enter-held.result.state e.view e.seen e.own c.requires.by

pub returns-clause-hold : goal.returns-clause-hold
returns-clause-hold g c =
    let e = c.enter-held.ensures in
    (c.enter-held.result.state, c.enter-held.result.state, e.basis, a_held c.args.by (view c.args.pass) _ c.enter-held.result.state e.view e.seen e.own c.requires.by c.enter-held.result.state _ c.leave.ensures.view, refl)
