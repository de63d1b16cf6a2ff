-- What is put before the workers begin.
use Rattle.std.specs.Prelude.{◌≡◌, ◌⊎◌, ℕ, List, codes, Result, Ok, Err}
use Rattle.cts_outside.specs.Causes.{Rose}
use Rattle.cts_outside.specs.Contents.{appended, IsPartPut}
use Rattle.cts_outside.specs.Seen.{SinkSeen}
use Rattle.cts_server.specs.declared.worked.NotStarted.{NotStarted}
use Rattle.cts_server.specs.declared.worked.NotStarted.TheVariants.{Memory, WriteFault}

abbrev pub ready_line : List ℕ
ready_line = codes "READY\n"

-- the line was put in whole, and no put failed
abbrev pub ReadyPut : SinkSeen → SinkSeen → Type 0
ReadyPut old new = (new.faults ≡ old.faults) × (new.told ≡ appended old.told ready_line)

-- a put of it failed, and left a beginning of the line
abbrev pub ReadyFailed : SinkSeen → SinkSeen → Type 0
ReadyFailed old new = Rose old.faults new.faults × IsPartPut old.told new.told ready_line

-- What stands in the output. Where the workers have worked the line was put; where memory ran out nothing was put, or the line; and a fault
-- rose the count, and left a beginning of the line.
abbrev pub PutsReady : {T : Type 0} → SinkSeen → SinkSeen → Result T NotStarted → Type 0
PutsReady old new (Ok worked) = ReadyPut old new
PutsReady old new (Err Memory) = (new ≡ old) ⊎ ReadyPut old new
PutsReady old new (Err WriteFault) = ReadyFailed old new
