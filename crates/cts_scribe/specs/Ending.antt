-- Why a scribe ends, and what it leaves in its vault.
use Rattle.std.specs.Prelude.{◌≡◌, ◌⊎◌, ℕ, Bool, true, false, List, [], Option, Some, None, Result, Ok, Err}
use Rattle.cts_def.specs.Sites.{SiteData}
use Rattle.cts_entry.specs.declared.entry.Entry.{Entry}
use Rattle.cts_outside.specs.Causes.{Rose}
use Rattle.cts_outside.specs.Vaults.{Logs}
use Rattle.cts_scribe.specs.Vaults.{AreBegun, AreBlank, AreWhole}
use Rattle.cts_scribe.specs.declared.ending.ScribeWhy.{ScribeWhy}
use Rattle.cts_scribe.specs.declared.ending.ScribeWhy.TheVariants.{Drained, VaultFailed, NoMemory, Cancelled}

-- whether a scribe that ends for this reason stops the server
abbrev pub stops_all : ScribeWhy → Bool
stops_all Drained = false
stops_all VaultFailed = true
stops_all NoMemory = true
stops_all Cancelled = true

-- Why a scribe ends has its cause in the faults that its vault counts, before and now: they rose where it failed, and else none came.
abbrev pub CausesEnd : ℕ → ℕ → ScribeWhy → Type 0
CausesEnd before now Drained = now ≡ before
CausesEnd before now VaultFailed = Rose before now
CausesEnd before now NoMemory = now ≡ before
CausesEnd before now Cancelled = ⊥

-- the same of an end, where there is one
abbrev pub CausesEndIf : ℕ → ℕ → Option ScribeWhy → Type 0
CausesEndIf before now None = now ≡ before
CausesEndIf before now (Some why) = CausesEnd before now why

-- What the parts of the logs of the vault are at the end, beside those of the entries that were followed: whole and synced where the history is
-- drained; after a fault a beginning of them; and for want of memory whole and synced, or not begun.
abbrev pub LogsEnd : SiteData → List ℕ → List Entry → ScribeWhy → Option Logs → Type 0
LogsEnd site digest followed Drained told = AreWhole site digest followed told
LogsEnd site digest followed VaultFailed told = AreBegun site digest followed told
LogsEnd site digest followed NoMemory told = AreWhole site digest followed told ⊎ AreBlank told
LogsEnd site digest followed Cancelled told = ⊥

-- the same of an end, where there is one, and else between two looks
abbrev pub LogsEndIf : SiteData → List ℕ → List Entry → Option ScribeWhy → Option Logs → Type 0
LogsEndIf site digest followed None told = AreWhole site digest followed told
LogsEndIf site digest followed (Some why) told = LogsEnd site digest followed why told

-- the heads of both logs were put, or the scribe ends
abbrev pub HeadsPut : {T : Type 0} → SiteData → List ℕ → Option Logs → Result T ScribeWhy → Type 0
HeadsPut site digest told (Ok u) = AreWhole site digest [] told
HeadsPut site digest told (Err why) = LogsEnd site digest [] why told

abbrev pub CausesHeads : {T : Type 0} → ℕ → ℕ → Result T ScribeWhy → Type 0
CausesHeads before now (Ok u) = now ≡ before
CausesHeads before now (Err why) = CausesEnd before now why
