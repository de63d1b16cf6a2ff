-- What entries give to the logs of a vault in parts.
use Rattle.std.specs.Prelude.{◌≡◌, ℕ, ◌+◌, ◌-◌, ◌<◌, ◌≤◌, ◌⊎◌, Bool, false, List, [], ◌∷◌, ◌++◌, length, slice_get, take, Some}
use Rattle.cts_def.specs.Sites.{SiteData}
use Rattle.cts_entry.specs.declared.entry.Entry.{Entry}
use Rattle.cts_log.specs.Cycling.{CycleData}
use Rattle.cts_log_batch.specs.declared.batch.Batch.{Batch}
use Rattle.cts_log_parts.specs.Grouping.{joined}
use Rattle.cts_log_parts.specs.Growths.{CutsData, DoNotFall, begins_entry, cut_growth, cut_with, cycle_after}
use Rattle.cts_outside.specs.declared.vault.LogKind.{LogKind}
use Rattle.cts_outside.specs.declared.vault.LogKind.TheVariants.{Tlm, Cmd}
use Rattle.cts_scribe.specs.declared.cycles.Cycles.{Cycles}
use Rattle.cts_scribe.specs.declared.growth.Growth.{Growth}
use Rattle.cts_scribe.specs.declared.heads.Heads.{Heads}
use Rattle.cts_scribe.specs.Logs.{counted_after, entries_log, head_of, parts}

-- the heads with which the parts of both logs begin
pub record AreHeads (site : SiteData) (digest : List ℕ) (heads : Heads) : Type 0 where
  pub tlm : heads.tlm ≡ head_of Tlm site digest
  pub cmd : heads.cmd ≡ head_of Cmd site digest

-- of each log it is counted how long its last part is after these entries
pub record Count (site : SiteData) (entries : List Entry) (cycles : Cycles) : Type 0 where
  pub tlm : cycles.tlm ≡ counted_after Tlm site entries
  pub cmd : cycles.cmd ≡ counted_after Cmd site entries

-- Bytes, and places among them at which new parts begin, are what the entries from one place up to another give to a log: the parts of the log
-- up to the second place are those up to the first one, grown by this.
pub record Gives (kind : LogKind) (site : SiteData) (history : List Entry) (from to : ℕ) (bytes : List ℕ) (cuts : CutsData) : Type 0 where
  pub places : DoNotFall 0 cuts.places (length bytes)
  pub end : cuts.end ≡ length bytes
  pub grown : (digest : List ℕ) → joined (parts kind site digest (take from history)) (cut_growth (head_of kind site digest) cuts.places bytes)
      ≡ parts kind site digest (take to history)

-- the same of both logs
pub record GivesBoth (site : SiteData) (history : List Entry) (from to : ℕ) (growth : Growth) : Type 0 where
  pub tlm : Gives Tlm site history from to growth.batch.tlm.items growth.tlm
  pub cmd : Gives Cmd site history from to growth.batch.cmd.items growth.cmd

-- What one entry adds to what was given to a log: its bytes come after those that stood, and where it has some, the cycle counts them and says
-- whether a new part begins there.
pub record GivesOneMore (kind : LogKind) (site : SiteData) (e : Entry) (bytes : List ℕ) (cuts : CutsData) (cycle : CycleData)
    (bytes' : List ℕ) (cuts' : CutsData) (cycle' : CycleData) : Type 0 where
  pub bytes_are : bytes' ≡ bytes ++ entries_log kind site (e ∷ [])
  pub cuts_are : cuts' ≡ cut_with (begins_entry cycle (length bytes' - cuts.end)) (length bytes') cuts
  pub cycle_is : cycle' ≡ cycle_after cycle (length bytes' - cuts.end)

-- ---- how much is given at once

-- how many bytes come to both logs together
abbrev pub bytes_given : Batch → ℕ
bytes_given batch = length batch.tlm.items + length batch.cmd.items

-- and how many of them an entry gives
abbrev pub bytes_of_entry : SiteData → Entry → ℕ
bytes_of_entry site e = length (entries_log Tlm site (e ∷ [])) + length (entries_log Cmd site (e ∷ []))

-- How many entries are followed at once at most; and how many bytes come to both logs together then, 1 MiB, but for a single entry that is longer.
abbrev pub most_entries : ℕ
most_entries = 256

abbrev pub most_bytes : ℕ
most_bytes = 1048576

-- The bytes of an entry come after those that stood, and where it is not the first, there are not too many.
pub record Takes (site : SiteData) (e : Entry) (is_first : Bool) (old new : Batch) : Type 0 where
  pub tlm : new.tlm.items ≡ old.tlm.items ++ entries_log Tlm site (e ∷ [])
  pub cmd : new.cmd.items ≡ old.cmd.items ++ entries_log Cmd site (e ∷ [])
  pub short : is_first ≡ false → bytes_given new ≤ most_bytes

-- An entry that is not the first is left out, since there would be too many bytes with it: no bytes have come.
pub record Leaves (site : SiteData) (e : Entry) (is_first : Bool) (old new : Batch) : Type 0 where
  pub tlm : new.tlm.items ≡ old.tlm.items
  pub cmd : new.cmd.items ≡ old.cmd.items
  pub later : is_first ≡ false
  pub over : most_bytes < bytes_given old + bytes_of_entry site e

-- Of the entries from one place up to another one not too many are followed, nor do they give too many bytes, but for a single one. Where another one
-- stands and it is not for their number that it is left out, there would have been too many bytes with it.
pub record AreBounded (site : SiteData) (history : List Entry) (from to : ℕ) (batch : Batch) : Type 0 where
  pub few : to ≤ from + most_entries
  pub short : (to ≡ from + 1) ⊎ (bytes_given batch ≤ most_bytes)
  pub full : (e : Entry) → slice_get history to ≡ Some e → to < from + most_entries → most_bytes < bytes_given batch + bytes_of_entry site e
