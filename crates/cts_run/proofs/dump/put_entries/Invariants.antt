use Rattle.std.proofs.Common.{◌-◌, List, length}
use Rattle.cts_outside.specs.Seen.{VaultSeen}
use Rattle.cts_run.specs.Acts.{Act, outside}
use Rattle.cts_run.proofs.DumpLemmas.{IsFar}
use Rattle.cts_run.proofs.dump.put_entries.Given as goal

abbrev pub invariant-loop-entry : goal.invariant-loop-entry
invariant-loop-entry g l = (vault : VaultSeen) → (acts : List Act) × IsFar l.fn.reader.file l.reader acts (outside (g.O.Sink.seen l.fn.out) vault) (outside (g.O.Sink.seen l.out) vault)

abbrev pub decreases-loop-entry : goal.decreases-loop-entry
decreases-loop-entry g l = length l.reader.file - l.reader.place
