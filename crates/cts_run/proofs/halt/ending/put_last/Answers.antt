use Rattle.cts_run.proofs.EndingLemmas.{put_printed}
use Rattle.cts_run.proofs.halt.ending.put_last.Goals as goal

pub returns-then-not-is_empty : goal.returns-then-not-is_empty
returns-then-not-is_empty g c = put_printed _ _ c.args.line.now c.put.result c.put.ensures.content c.put.ensures.cause
