use Rattle.cts_worker.specs.Grounds.{ground}
use Rattle.cts_desk.proofs.Histories.{desk_works}
use Rattle.cts_desk.proofs.worker.DeskWorker.cancel.Goals as goal

pub cancel-pass-requires-clause-worker : goal.cancel-pass-requires-clause-worker
cancel-pass-requires-clause-worker g c = desk_works (ground c.args.turn.now).site c.args.by c.requires.desk
