use Rattle.cts_limits.proofs.Lasts.{states_are_left}
use Rattle.cts_limits.proofs.laws.samples_leave_states.Goals as goal

pub returns : goal.returns
returns c = states_are_left
