-- The parts of a log.
use Rattle.std.specs.Prelude.{◌≡◌, ℕ, Bool, List, length, map, Option, Some, None}
use Rattle.cts_log.specs.Files.{log_file, log_head_len}
use Rattle.cts_log.specs.Logged.{Logged, entry_bytes}
use Rattle.cts_log.specs.declared.kind.LogKind.{LogKind}
use Rattle.cts_log_parts.specs.Grouping.{AreGroups, grouped}

-- how long an entry is in a log, with flags or without
abbrev pub entry_len : Bool → Logged → ℕ
entry_len fl e = length (entry_bytes fl e)

-- the entries of each part
abbrev pub groups_of : Bool → Option ℕ → List Logged → List (List Logged)
groups_of fl cycle es = grouped (entry_len fl) cycle log_head_len es

-- each part is a log file of its entries
abbrev pub log_parts : LogKind → Bool → List ℕ → Option ℕ → List Logged → List (List ℕ)
log_parts kind fl digest cycle es = map (log_file kind fl digest) (groups_of fl cycle es)

-- Byte lists are the parts of a log with these entries.
abbrev pub AreLogParts : LogKind → Bool → List ℕ → Option ℕ → List Logged → List (List ℕ) → Type 0
AreLogParts kind fl digest cycle es parts = (gs : List (List Logged)) × AreGroups (entry_len fl) cycle es gs × (parts ≡ map (log_file kind fl digest) gs)

-- what a cycle counts where the last part has this size: without a limit it stands still
abbrev pub counted : Option ℕ → ℕ → ℕ
counted None size = log_head_len
counted (Some limit) size = size
