-- What puts leave of a sink, and appends and syncs of a vault's count.
use Rattle.std.specs.Prelude.{◌≡◌, ◌≢◌, ℕ, ◌≤◌, List, [], take, Result, Ok, Err}
use Rattle.cts_outside.specs.Causes.{Rose, Steady}
use Rattle.cts_outside.specs.Contents.{appended, IsPartPut}
use Rattle.cts_outside.specs.Seen.{SinkSeen, VaultSeen}
use Rattle.cts_run.specs.declared.halt.Halt.{Halt}
use Rattle.cts_run.specs.declared.halt.Halt.TheVariants as halt
use Rattle.cts_run.specs.declared.putting.Undone.{Undone}
use Rattle.cts_run.specs.declared.putting.Undone.TheVariants.{WriteFault, LogFault, Memory}

-- A text was put in whole, and no put failed.
abbrev pub IsPut : List ℕ → SinkSeen → SinkSeen → Type 0
IsPut text old new = (new.faults ≡ old.faults) × (new.told ≡ appended old.told text)

-- A put failed within this text, which is not empty.
abbrev pub FailsWithin : List ℕ → SinkSeen → SinkSeen → Type 0
FailsWithin text old new = Rose old.faults new.faults × (text ≢ []) × IsPartPut old.told new.told text

-- a text was put, or why not
abbrev pub PutsText : List ℕ → Result (Unit {0}) Undone → SinkSeen → SinkSeen → Type 0
PutsText text (Ok done) old new = IsPut text old new
PutsText text (Err WriteFault) old new = FailsWithin text old new
PutsText text (Err LogFault) old new = ⊥
PutsText text (Err Memory) old new = new ≡ old

-- the count of a sink rises at a put that failed, and stays where a command halts otherwise
abbrev pub HaltFaults : Halt → SinkSeen → SinkSeen → Type 0
HaltFaults halt.WriteFault old new = Rose old.faults new.faults
HaltFaults halt old new = new.faults ≡ old.faults

-- and stays where it does not halt
abbrev pub SinkCounts : {T : Type 0} → Result T Halt → SinkSeen → SinkSeen → Type 0
SinkCounts (Ok x) old new = new.faults ≡ old.faults
SinkCounts (Err halt) old new = HaltFaults halt old new

-- the count of a vault rises at an append or a sync that failed, and stays where a command halts otherwise
abbrev pub HaltLogs : Halt → VaultSeen → VaultSeen → Type 0
HaltLogs halt.LogFault old new = Rose old.faults new.faults
HaltLogs halt old new = new.faults ≡ old.faults

-- and stays where it does not halt
abbrev pub VaultCounts : {T : Type 0} → Result T Halt → VaultSeen → VaultSeen → Type 0
VaultCounts (Ok x) old new = new.faults ≡ old.faults
VaultCounts (Err halt) old new = HaltLogs halt old new

-- A last line was put, or a prefix of it where its put failed.
pub record Printed (old new : SinkSeen) (last : List ℕ) : Type 0 where
  pub later : old.faults ≤ new.faults
  pub count : ℕ
  pub part : new.told ≡ appended old.told (take count last)
  pub whole : Steady old.faults new.faults → new.told ≡ appended old.told last
