use Rattle.cts_trace.proofs.WorkedLines.{worked_told}
use Rattle.cts_trace.proofs.laws.examples.Goals as goal

pub returns : goal.returns
returns c = record { worked = worked_told }
