use Rattle.cts_defread.proofs.Taken.{state_known}
use Rattle.cts_defread.proofs.adding.know_state.Goals as goal

pub returns-in_ok-insert : goal.returns-in_ok-insert
returns-in_ok-insert c = state_known c.args.states.now c.insert.new.self c.args.taken c.in_ok-clone.field-0 c.args.name.now c.if-taken.true c.in_ok-clone.ensures.cases c.in_ok-insert.ensures.updates
