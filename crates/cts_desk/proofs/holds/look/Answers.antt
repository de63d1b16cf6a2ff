use Rattle.std.proofs.Common.{[], refl}
use Rattle.cts_turn.specs.Passes.{view}
use Rattle.cts_worker.specs.Grounds.{ground}
use Rattle.cts_desk.proofs.Histories.{ready_hold}
use Rattle.cts_desk.proofs.holds.look.Goals as goal

pub sees_stop-pass-requires-clause-by : goal.sees_stop-pass-requires-clause-by
sees_stop-pass-requires-clause-by g c = c.requires.ready.makers

pub returns-clause-ready : goal.returns-clause-ready
returns-clause-ready g c = ready_hold (ground c.args.turn.now) c.args.by (view c.args.talk.pass) (view c.sees_stop-pass.result.0) [] c.sees_stop-pass.ensures.hold refl c.requires.ready
