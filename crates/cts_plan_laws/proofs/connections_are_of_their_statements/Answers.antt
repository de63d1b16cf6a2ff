use Rattle.cts_plan_laws.proofs.Heads.{connections_are_of_their_statements}
use Rattle.cts_plan_laws.proofs.Opened.{connections_have_their_statements, none_stands_before}
use Rattle.cts_plan_laws.proofs.connections_are_of_their_statements.Goals as goal

pub returns : goal.returns
returns c = record { heads = connections_are_of_their_statements; bodies = connections_have_their_statements; none = none_stands_before }
