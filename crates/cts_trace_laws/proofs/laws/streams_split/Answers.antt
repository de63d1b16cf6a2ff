use Rattle.cts_trace_laws.proofs.Splits.{streams_split, streams_hold_all, streams_hold_only_all}
use Rattle.cts_trace_laws.proofs.laws.streams_split.Goals as goal

pub returns : goal.returns
returns g c = record { split = streams_split; all = streams_hold_all; only = streams_hold_only_all }
