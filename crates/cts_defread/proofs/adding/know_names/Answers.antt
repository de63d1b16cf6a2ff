use Rattle.cts_defread.proofs.adding.know_names.Goals as goal

pub returns-in-State-clause-states : goal.returns-in-State-clause-states
returns-in-State-clause-states c = rw c.in-State.is c.know_state.ensures
