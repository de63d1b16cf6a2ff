use Rattle.cts_worker.proofs.Lasting.{can_stop}
use Rattle.cts_worker.proofs.ending.stop.Goals as goal

pub stop-requires : goal.stop-requires
stop-requires c = can_stop c.args.hall.now c.args.by c.args.time c.requires.worker c.requires.going c.requires.active
