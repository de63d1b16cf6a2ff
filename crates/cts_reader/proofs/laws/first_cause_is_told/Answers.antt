use Rattle.cts_reader.proofs.FirstCause.{first_told, none_told}
use Rattle.cts_reader.proofs.laws.first_cause_is_told.Goals as goal

pub returns-clause-first : goal.returns-clause-first
returns-clause-first g c = first_told

pub returns-clause-none : goal.returns-clause-none
returns-clause-none g c = none_told
