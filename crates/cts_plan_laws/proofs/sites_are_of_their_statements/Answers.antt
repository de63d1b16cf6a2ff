use Rattle.cts_plan_laws.proofs.SiteSaid.{sites_are_of_their_statements}
use Rattle.cts_plan_laws.proofs.Fitting.{statements_fit}
use Rattle.cts_plan_laws.proofs.sites_are_of_their_statements.Goals as goal

pub returns : goal.returns
returns c = record { said = sites_are_of_their_statements; fit = statements_fit }
