use Rattle.std.proofs.Common.{rules}
use Rattle.cts_reader.proofs.reading.unless_refused.Goals as goal

pub returns-in-Some-clause-settled : goal.returns-in-Some-clause-settled
returns-in-Some-clause-settled c = search rules
