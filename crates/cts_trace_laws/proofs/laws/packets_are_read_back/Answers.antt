use Rattle.cts_trace_laws.proofs.Preidentified.{all_read_back}
use Rattle.cts_trace_laws.proofs.laws.packets_are_read_back.Goals as goal

pub returns : goal.returns
returns c = all_read_back
