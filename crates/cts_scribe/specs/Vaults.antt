-- How far the logs of a vault have come, and what appends, syncs and new parts make of that.
use Rattle.std.specs.Prelude.{◌≡◌, ℕ, List, [], Option, Some, None, Result, Ok, Err}
use Rattle.cts_def.specs.Sites.{SiteData}
use Rattle.cts_entry.specs.declared.entry.Entry.{Entry}
use Rattle.cts_log_parts.specs.Grouping.{joined}
use Rattle.cts_log_parts.specs.Told.{AreBegunParts, AreWholeParts}
use Rattle.cts_outside.specs.Vaults.{IsSynced, Log, Logs}
use Rattle.cts_outside.specs.declared.sink.PutFailed.{PutFailed}
use Rattle.cts_outside.specs.declared.vault.LogKind.{LogKind}
use Rattle.cts_outside.specs.declared.vault.LogKind.TheVariants.{Tlm, Cmd}
use Rattle.cts_scribe.specs.Logs.{parts}

-- one part, to which nothing was appended
abbrev pub IsBlank : Log → Type 0
IsBlank l = (l.bytes ≡ []) × (l.synced ≡ []) × (l.past ≡ [])

-- both logs are so, where a vault tells its logs
abbrev pub AreBlank : Option Logs → Type 0
AreBlank None = Unit {0}
AreBlank (Some logs) = IsBlank logs.tlm × IsBlank logs.cmd

-- the log of telemetry is so for these parts, and that of commands for those, where a vault tells its logs
abbrev pub LogsSo : (Log → List (List ℕ) → Type 0) → List (List ℕ) → List (List ℕ) → Option Logs → Type 0
LogsSo IsSo tlm cmd None = Unit {0}
LogsSo IsSo tlm cmd (Some logs) = IsSo logs.tlm tlm × IsSo logs.cmd cmd

-- the parts of both logs of these entries are whole and synced
abbrev pub AreWhole : SiteData → List ℕ → List Entry → Option Logs → Type 0
AreWhole site digest entries told = LogsSo AreWholeParts (parts Tlm site digest entries) (parts Cmd site digest entries) told

-- the parts of a log of this kind are a beginning of those of the log of these entries
abbrev pub IsBegun : LogKind → SiteData → List ℕ → List Entry → Log → Type 0
IsBegun kind site digest entries l = AreBegunParts l (parts kind site digest entries)

-- those of both are a beginning of the parts of the logs of these entries
abbrev pub AreBegun : SiteData → List ℕ → List Entry → Option Logs → Type 0
AreBegun site digest entries told = LogsSo AreBegunParts (parts Tlm site digest entries) (parts Cmd site digest entries) told

-- ---- appends, syncs and new parts

-- all bytes of both logs are synced, where a vault tells them
abbrev pub AreSynced : Option Logs → Type 0
AreSynced told = IsSynced Tlm told × IsSynced Cmd told

-- the parts of a log are whole after what was done, and after a fault a beginning
abbrev pub IsLeft : Result (Unit {0}) PutFailed → Log → List (List ℕ) → Type 0
IsLeft (Ok x) l parts = AreWholeParts l parts
IsLeft (Err e) l parts = AreBegunParts l parts

-- Parts that were whole have grown by these, those of telemetry and those of commands, and all is synced; after a fault they are a beginning.
abbrev pub PutsBoth : Option Logs → Option Logs → List (List ℕ) → List (List ℕ) → Result (Unit {0}) PutFailed → Type 0
PutsBoth old new tlm cmd result = (t c : List (List ℕ)) → LogsSo AreWholeParts t c old → LogsSo (IsLeft result) (joined t tlm) (joined c cmd) new
