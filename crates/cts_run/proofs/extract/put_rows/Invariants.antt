use Rattle.std.proofs.Common.{◌-◌, length}
use Rattle.cts_run.proofs.ExtractLemmas.{HasPut}
use Rattle.cts_run.proofs.extract.put_rows.Given as goal

abbrev pub invariant-loop-entry : goal.invariant-loop-entry
invariant-loop-entry g l = HasPut l.fn.definitions l.fn.columns l.fn.reader.file l.reader (g.O.Sink.seen l.fn.out) (g.O.Sink.seen l.out)

abbrev pub decreases-loop-entry : goal.decreases-loop-entry
decreases-loop-entry g l = length l.reader.file - l.reader.place
