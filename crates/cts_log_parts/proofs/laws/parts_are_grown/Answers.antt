use Rattle.cts_log_parts.proofs.Growing.{given_one_more, parts_are_grown}
use Rattle.cts_log_parts.proofs.laws.parts_are_grown.Goals as goal

pub returns-clause-one : goal.returns-clause-one
returns-clause-one c = given_one_more

pub returns-clause-grown : goal.returns-clause-grown
returns-clause-grown c = parts_are_grown
