use Rattle.cts_server.proofs.Taking.{aim_shows}
use Rattle.cts_server.proofs.tasks.take_line.Goals as goal

pub returns-clause-device : goal.returns-clause-device
returns-clause-device g c = (
  c.take_at-device.result,
  c.take_at-device.ensures.stood,
  aim_shows c.args.aim (g.D.Link.seen c.take_at-device.result) (g.D.Link.seen c.aim.new.self) c.aim.ensures.content c.aim.ensures.linked
      c.aim.ensures.finished c.aim.ensures.faults c.aim.ensures.dials,
)
