use Rattle.cts_run.proofs.LoadLemmas.{bytes_fail, said_gives}
use Rattle.cts_run.proofs.load.statements.read_statements.Goals as goal

pub returns-in-Ok-clause-content : goal.returns-in-Ok-clause-content
returns-in-Ok-clause-content g c = said_gives _ c.args.kind c.args.name.now c.in-Ok.bytes _ c.in-Ok.ensures.content (rw c.as_slice.ensures at c.statements_in.ensures)

pub returns-in-Err-clause-content : goal.returns-in-Err-clause-content
returns-in-Err-clause-content g c = bytes_fail _ c.args.kind c.args.name.now c.in-Err.halt c.in-Err.ensures.content
