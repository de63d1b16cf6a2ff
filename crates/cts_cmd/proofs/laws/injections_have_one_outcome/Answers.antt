use Rattle.cts_cmd.proofs.Injecting.{injected_one, stand_on_bytes}
use Rattle.cts_cmd.proofs.laws.injections_have_one_outcome.Goals as goal

pub returns-clause-under : goal.returns-clause-under
returns-clause-under c = stand_on_bytes

pub returns-clause-one : goal.returns-clause-one
returns-clause-one c = injected_one
