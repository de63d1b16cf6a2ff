use Rattle.cts_plan_laws.proofs.FirstRefused.{refuses_the_first, takes_the_others, statements_say_lines}
use Rattle.cts_plan_laws.proofs.first_statement_is_refused.Goals as goal

pub returns : goal.returns
returns c = record { refused = refuses_the_first; taken = takes_the_others; lines = statements_say_lines }
