use Rattle.std.proofs.Common.{◌∙◌, ap, inl, subst, take}
use Rattle.cts_scribe.specs.Ending.{LogsEnd}
use Rattle.cts_turn.specs.Lists.{has}
use Rattle.cts_turn.specs.Passes.{view}
use Rattle.cts_worker.proofs.Holdings.{by_one}
use Rattle.cts_server.specs.Scribes.{EndedScribe}
use Rattle.cts_server.proofs.Endings.{ended_scribe}
use Rattle.cts_server.proofs.Whys.{scribe_ran}
use Rattle.cts_server.proofs.scribe.run_scribe.Goals as goal

pub run-end-requires-clause-by : goal.run-end-requires-clause-by
run-end-requires-clause-by g c = ap (has c.args.by) c.requires.makers ∙ by_one c.args.by

pub returns-clause-onward : goal.returns-clause-onward
returns-clause-onward g c = let o = c.run-end.ensures.onward in record { makers = o.makers; seen = o.seen; found = o.found }

pub returns-clause-owes : goal.returns-clause-owes
returns-clause-owes g c =
    let e = c.run-end.ensures in
    let same = c.requires.can.same in
    let end = c.run-end.result in
    let v = view end.pass in
    let new = g.V.Vault.seen c.run-end.new.vault in (
      end.cursor,
      inl (record {
        logs = subst (λ s. LogsEnd s c.args.context.now.digest.now (take end.cursor v.seen) end.why new.told) same e.logs;
        ends = subst (λ s. EndedScribe s c.args.by end.why v.seen end.cursor) same
            (ended_scribe c.args.context.now.site.now c.args.by end.why v.seen end.cursor e.ends);
        ended = e.ended;
        cause = e.cause;
        stops = e.stops;
      }),
    )

pub returns-clause-worked : goal.returns-clause-worked
returns-clause-worked g c =
    scribe_ran (g.V.Vault.seen c.args.vault).faults (g.V.Vault.seen c.run-end.new.vault).faults c.run-end.result.why c.run-end.ensures.cause
