use Rattle.cts_trace_laws.proofs.Cutting.{streams_are_cut, streams_are_heard}
use Rattle.cts_trace_laws.proofs.laws.streams_are_heard.Goals as goal

pub returns : goal.returns
returns g c = record { cut = streams_are_cut; heard = streams_are_heard }
