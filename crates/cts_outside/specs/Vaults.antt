-- What a vault tells of its two logs, and what each call leaves of them.
use Rattle.std.specs.Prelude.{◌≡◌, ℕ, ◌≤◌, List, [], ◌∷◌, ◌++◌, length, map, take, Option, Some, None, option_map, Result, Ok, Err}
use Rattle.cts_outside.specs.declared.vault.LogKind.{LogKind}
use Rattle.cts_outside.specs.declared.vault.LogKind.TheVariants.{Tlm, Cmd}

-- A log, which is kept in parts, of which the last one alone grows: the bytes that were appended to that one, those of them that are sure to
-- outlive a stop, and the bytes of the parts before it, all of which are sure to.
pub record Log : Type 0 where
  pub bytes : List ℕ
  pub synced : List ℕ
  pub past : List (List ℕ)

-- a part of a log: the bytes that were appended to it, and those of them that are sure to outlive a stop
pub record Part : Type 0 where
  pub bytes : List ℕ
  pub synced : List ℕ

abbrev pub whole_part : List ℕ → Part
whole_part bytes = record { bytes = bytes; synced = bytes }

-- the parts of a log, the first one first
abbrev pub parts_of : Log → List Part
parts_of log = map whole_part log.past ++ record { bytes = log.bytes; synced = log.synced } ∷ []

-- the log of telemetry and that of commands
pub record Logs : Type 0 where
  pub tlm : Log
  pub cmd : Log

-- logs of one part each, to which nothing was appended yet
abbrev pub no_log : Log
no_log = record { bytes = []; synced = []; past = [] }

abbrev pub no_logs : Logs
no_logs = record { tlm = no_log; cmd = no_log }

-- the log of a kind
abbrev pub log_of : LogKind → Logs → Log
log_of Tlm logs = logs.tlm
log_of Cmd logs = logs.cmd

-- the logs where the one of this kind has become another
abbrev pub at_kind : LogKind → (Log → Log) → Logs → Logs
at_kind Tlm f logs = record { tlm = f logs.tlm; cmd = logs.cmd }
at_kind Cmd f logs = record { tlm = logs.tlm; cmd = f logs.cmd }

-- the log with these bytes after those of its last part
abbrev pub with_bytes : List ℕ → Log → Log
with_bytes bytes log = record { bytes = log.bytes ++ bytes; synced = log.synced; past = log.past }

-- the log of which all bytes are synced
abbrev pub all_synced : Log → Log
all_synced log = record { bytes = log.bytes; synced = log.bytes; past = log.past }

-- the log with one part more, to which nothing was appended yet
abbrev pub with_part : Log → Log
with_part log = record { bytes = []; synced = []; past = log.past ++ log.bytes ∷ [] }

-- all bytes of the log of a kind are synced, where the logs are told
abbrev pub IsSynced : LogKind → Option Logs → Type 0
IsSynced kind None = Unit {0}
IsSynced kind (Some logs) = (log_of kind logs).synced ≡ (log_of kind logs).bytes

-- an append appends all its bytes to the last part, and where it fails a prefix of them
abbrev pub Appends : {T E : Type 0} → LogKind → Option Logs → Option Logs → List ℕ → Result T E → Type 0
Appends kind old new bytes (Ok x) = new ≡ option_map (at_kind kind (with_bytes bytes)) old
Appends kind old new bytes (Err e) = (n : ℕ) × (n ≤ length bytes) × (new ≡ option_map (at_kind kind (with_bytes (take n bytes))) old)

-- a sync syncs all bytes of the last part, and where it fails none that was not
abbrev pub Syncs : {T E : Type 0} → LogKind → Option Logs → Option Logs → Result T E → Type 0
Syncs kind old new (Ok x) = new ≡ option_map (at_kind kind all_synced) old
Syncs kind old new (Err e) = new ≡ old

-- a part more is begun, and where that fails none is
abbrev pub BeginsPart : {T E : Type 0} → LogKind → Option Logs → Option Logs → Result T E → Type 0
BeginsPart kind old new (Ok x) = new ≡ option_map (at_kind kind with_part) old
BeginsPart kind old new (Err e) = new ≡ old
