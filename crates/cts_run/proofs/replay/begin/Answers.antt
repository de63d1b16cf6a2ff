use Rattle.cts_run.proofs.CommandLemmas.{shelf_fails, world_made}
use Rattle.cts_run.proofs.replay.begin.Goals as goal

pub returns-in-Ok-clause-gives : goal.returns-in-Ok-clause-gives
returns-in-Ok-clause-gives g c = (world_made _ c.args.site c.in-Ok.ensures.enough, c.in-Ok.ensures.stands)

pub returns-in-Err-clause-gives : goal.returns-in-Err-clause-gives
returns-in-Err-clause-gives g c = rw c.from.ensures (shelf_fails _ c.args.site c.in-Err.why c.in-Err.ensures.fault)
