use Rattle.cts_log.specs.Reading.{logged}
use Rattle.cts_run.proofs.ExtractLemmas.{no_row, row_put}
use Rattle.cts_run.proofs.extract.put_row.Goals as goal

pub returns-in-Ok-Some : goal.returns-in-Ok-Some
returns-in-Ok-Some g c = λ p items are.
    let row = rw c.in-Ok-Some.field-0-is at c.in-Ok-Some.ensures in
    row_put c.args.columns.now.kind p items (logged c.args.entry.now) _ c.put_line.result _ _ (row p items are) c.put_line.ensures

pub returns-in-Ok-None : goal.returns-in-Ok-None
returns-in-Ok-None g c = λ p items are.
    let row = rw c.in-Ok-None.field-0-is at c.in-Ok-None.ensures in
    no_row c.args.columns.now.kind p items (logged c.args.entry.now) _ (row p items are)
