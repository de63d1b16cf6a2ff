use Rattle.cts_run.proofs.LoadLemmas.{bytes_fail, said_fail}
use Rattle.cts_run.proofs.load.statements.read_digested.Goals as goal

pub returns-in-Ok-clause-content : goal.returns-in-Ok-clause-content
returns-in-Ok-clause-content g c =
    said_fail _ c.args.kind c.args.name.now c.in-Ok.bytes c.in-Err-statements_in.halt c.in-Ok.ensures.content (rw c.as_slice-in-Ok.ensures at c.in-Err-statements_in.ensures)

pub returns-clause-content : goal.returns-clause-content
returns-clause-content g c = bytes_fail _ c.args.kind c.args.name.now c.in-Err.halt c.in-Err.ensures.content
