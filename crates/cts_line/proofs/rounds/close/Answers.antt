use Rattle.cts_turn.specs.Passes.{view}
use Rattle.cts_line.proofs.Following.{close_kept, close_stop, close_told}
use Rattle.cts_line.proofs.rounds.close.Goals as goal

pub returns-clause-keeps : goal.returns-clause-keeps
returns-clause-keeps g c = close_kept _ c.args.hand.now.by (view c.args.pass) (view c.close-pass.result) c.args.connection.now c.close-pass.new.connection c.args.why c.close-pass.ensures.hold

pub returns-clause-talks : goal.returns-clause-talks
returns-clause-talks g c = λ told x. close_told _ c.args.hand.now.by (view c.args.pass) (view c.close-pass.result) c.args.connection.now c.close-pass.new.connection c.args.why c.requires.suits c.close-pass.ensures.hold told x

pub returns-clause-stop : goal.returns-clause-stop
returns-clause-stop g c = close_stop _ c.args.hand.now.by (view c.args.pass) (view c.close-pass.result) c.args.connection.now c.close-pass.new.connection c.args.why c.close-pass.ensures.hold
