use Rattle.cts_turn.specs.Passes.{view}
use Rattle.cts_worker.specs.Grounds.{ground}
use Rattle.cts_worker.proofs.Onwards.{onward_hold}
use Rattle.cts_desk.specs.Holds.{text_of}
use Rattle.cts_desk.proofs.Histories.{going_ask, ready_hold}
use Rattle.cts_desk.proofs.holds.ByHoldsSource.ask.Goals as goal

pub returns-clause-ready : goal.returns-clause-ready
returns-clause-ready g c = let a = c.ask.ensures.asked in
    ready_hold (ground c.args.turn.now) c.args.by (view c.args.pass) (view c.ask.result.0) a.added a.hold a.lasting c.requires.ready

pub returns-clause-onward : goal.returns-clause-onward
returns-clause-onward g c = let a = c.ask.ensures.asked in onward_hold c.args.by (view c.args.pass) (view c.ask.result.0) a.added a.hold

pub returns-clause-going : goal.returns-clause-going
returns-clause-going g c = λ n xs k.
    going_ask (ground c.args.turn.now) c.args.by c.args.body.now c.ask.result.1 (text_of c.ask.result.2) c.args._fronts.now (view c.args.pass) (view c.ask.result.0) xs c.ask.ensures.asked k
