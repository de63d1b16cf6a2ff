use Rattle.std.proofs.Common.{ap, ◌∙◌, subst}
use Rattle.cts_turn.specs.Passes.{view}
use Rattle.cts_connection.specs.Postings.{Closes}
use Rattle.cts_entry.specs.Histories.{is_connected}
use Rattle.cts_worker.proofs.Holdings.{a_held, kept_connected}
use Rattle.cts_line.proofs.holds.close.Goals as goal

pub close-requires-clause-on : goal.close-requires-clause-on
close-requires-clause-on g c =
    let e = c.enter-held.ensures in
    ap (λ s. is_connected c.args.by s.entries) c.state_mut.ensures.value ∙ (kept_connected c.args.by (view c.args.pass) _ c.enter-held.result.state e.view e.seen e.own c.requires.by ∙ c.requires.on)

pub returns-clause-hold : goal.returns-clause-hold
returns-clause-hold g c =
    let e = c.enter-held.ensures in
    let did = subst (λ s. Closes c.args.by c.time_of.result s c.args.connection.now c.args.why 0 c.close.new.hall c.close.new.connection) c.state_mut.ensures.value c.close.ensures.closes in (
      c.time_of.result,
      (c.enter-held.result.state, c.close.new.hall, e.basis, a_held c.args.by (view c.args.pass) _ c.enter-held.result.state e.view e.seen e.own c.requires.by c.close.new.hall _ c.leave.ensures.view, did),
    )
