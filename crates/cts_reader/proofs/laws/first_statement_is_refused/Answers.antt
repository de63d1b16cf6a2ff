use Rattle.cts_reader.proofs.FirstRefused.{refuses_the_first, takes_the_others}
use Rattle.cts_reader.proofs.laws.first_statement_is_refused.Goals as goal

pub returns-clause-refused : goal.returns-clause-refused
returns-clause-refused g c = refuses_the_first

pub returns-clause-taken : goal.returns-clause-taken
returns-clause-taken g c = takes_the_others
