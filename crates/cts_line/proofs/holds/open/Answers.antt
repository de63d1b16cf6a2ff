use Rattle.std.proofs.Common.{subst, sym}
use Rattle.cts_turn.specs.Passes.{view}
use Rattle.cts_worker.specs.Holds.{Adds}
use Rattle.cts_worker.specs.Lasts.{IsShut}
use Rattle.cts_line.specs.Doing.{OpensIn}
use Rattle.cts_worker.proofs.Holdings.{a_held, kept_shut, new_by}
use Rattle.cts_line.proofs.holds.open.Goals as goal

pub open-opening-requires-clause-shut : goal.open-opening-requires-clause-shut
open-opening-requires-clause-shut g c =
    let e = c.enter-held.ensures in
    subst (λ s. IsShut c.args.by s.entries) (sym c.state_mut.ensures.value) (kept_shut c.args.by (view c.args.pass) _ c.enter-held.result.state e.view e.seen e.own c.requires.by c.requires.shut)

pub leave-requires-clause-new : goal.leave-requires-clause-new
leave-requires-clause-new g c =
    let e = c.enter-held.ensures in
    new_by c.args.by (view c.args.pass) _ c.enter-held.result.state e.view e.seen e.own c.requires.by c.open-opening.new.hall
    (subst (λ s. Adds c.args.by s c.open-opening.new.hall) c.state_mut.ensures.value c.open-opening.ensures.adds)

pub returns-clause-hold : goal.returns-clause-hold
returns-clause-hold g c =
    let e = c.enter-held.ensures in
    let did = subst (λ s. OpensIn c.args.by c.time_of.result s c.args.connection.now c.open-opening.result c.open-opening.new.hall c.open-opening.new.connection) c.state_mut.ensures.value c.open-opening.ensures.opens in (
      c.time_of.result,
      (c.enter-held.result.state, c.open-opening.new.hall, e.basis, a_held c.args.by (view c.args.pass) _ c.enter-held.result.state e.view e.seen e.own c.requires.by c.open-opening.new.hall _ c.leave.ensures.view, did),
    )
