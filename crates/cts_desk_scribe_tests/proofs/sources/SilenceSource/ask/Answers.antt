use Rattle.std.proofs.Common.{[], ◌∷◌, ◌++◌, ap, sym, ◌∙◌, None}
use Rattle.std.proofs.lemmas.List.{map-append}
use Rattle.cts_turn.specs.Passes.{view}
use Rattle.cts_worker.proofs.Onwards.{onward_same}
use Rattle.cts_desk.specs.Exchanges.{Exchange}
use Rattle.cts_desk_scribe_tests.proofs.sources.SilenceSource.ask.Goals as goal

pub returns-clause-onward : goal.returns-clause-onward
returns-clause-onward g c = onward_same (view c.args.pass)

pub returns-clause-going : goal.returns-clause-going
returns-clause-going g c = λ n xs k.
    let front = c.args.self.now.front in
    let x : Exchange = record { body = c.args._body.now; front = front; text = None } in
    ap (λ l. l ++ front ∷ []) k ∙ sym (map-append (λ (y : Exchange). y.front) xs (x ∷ []))
