-- How far the parts of a log have come, as a vault tells them.
use Rattle.std.specs.Prelude.{◌≡◌, ℕ, List, [], ◌∷◌, ◌++◌, Option, Some, None, option_map, Result, Ok, Err}
use Rattle.cts_outside.specs.Vaults.{Log, Logs, log_of}
use Rattle.cts_outside.specs.declared.vault.LogKind.{LogKind}
use Rattle.cts_outside.specs.declared.vault.LogKind.TheVariants.{Tlm, Cmd}
use Rattle.cts_log_parts.specs.Grouping.{BeginsParts, StartsWith, joined}

-- the bytes of each part
abbrev pub bytes_of : Log → List (List ℕ)
bytes_of log = log.past ++ log.bytes ∷ []

-- the parts are these, and all is synced
abbrev pub AreWholeParts : Log → List (List ℕ) → Type 0
AreWholeParts log parts = (bytes_of log ≡ parts) × (log.synced ≡ log.bytes)

-- the parts are a beginning of these, and a beginning of the last one is synced
abbrev pub AreBegunParts : Log → List (List ℕ) → Type 0
AreBegunParts log parts = BeginsParts parts (bytes_of log) × StartsWith log.bytes log.synced

-- the same where a vault tells its log
abbrev pub WholeIf : List (List ℕ) → Option Log → Type 0
WholeIf parts None = Unit {0}
WholeIf parts (Some log) = AreWholeParts log parts

abbrev pub BegunIf : List (List ℕ) → Option Log → Type 0
BegunIf parts None = Unit {0}
BegunIf parts (Some log) = AreBegunParts log parts

-- whole after what was done, and after a fault a beginning
abbrev pub LeftIf : {T E : Type 0} → Result T E → List (List ℕ) → Option Log → Type 0
LeftIf (Ok x) parts told = WholeIf parts told
LeftIf (Err e) parts told = BegunIf parts told

-- Parts that were whole have grown by these: the last one went on, and new ones came; after a fault they are a beginning of that.
abbrev pub Grows : {T E : Type 0} → Option Log → Option Log → List (List ℕ) → Result T E → Type 0
Grows old new growth result = (parts : List (List ℕ)) → WholeIf parts old → LeftIf result (joined parts growth) new

-- ---- in a vault of two logs

abbrev pub other_kind : LogKind → LogKind
other_kind Tlm = Cmd
other_kind Cmd = Tlm

-- the log of a kind, where the logs are told
abbrev pub told_of : LogKind → Option Logs → Option Log
told_of kind told = option_map (log_of kind) told

-- the log of a kind has grown by these parts, and the other one is as it was
abbrev pub PutsGrowth : {T E : Type 0} → LogKind → Option Logs → Option Logs → List (List ℕ) → Result T E → Type 0
PutsGrowth kind old new growth result = Grows (told_of kind old) (told_of kind new) growth result
    × (told_of (other_kind kind) new ≡ told_of (other_kind kind) old)
