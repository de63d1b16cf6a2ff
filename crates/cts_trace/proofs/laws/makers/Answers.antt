use Rattle.cts_trace.proofs.Others.{own_entries_tell, last_ended_has_ended}
use Rattle.cts_trace.proofs.laws.makers.Goals as goal

pub returns : goal.returns
returns c = record { own = own_entries_tell; ended = last_ended_has_ended }
