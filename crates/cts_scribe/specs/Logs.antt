-- The packet logs of a site's history: what stands in each of them after some of its entries.
use Rattle.std.specs.Prelude.{◌≡◌, ℕ, Bool, ◌&&◌, List, [], ◌∷◌, ◌++◌, map, None}
use Rattle.std.specs.List.{filter}
use Rattle.cts_connection.specs.Routings.{is_logged}
use Rattle.cts_def.specs.Sites.{SiteData}
use Rattle.cts_entry.specs.declared.entry.Entry.{Entry}
use Rattle.cts_entry.specs.Histories.{bytes_of, commands_to, packets_from, stored_of}
use Rattle.cts_framing.specs.Layouts.{has_flags}
use Rattle.cts_log_batch.specs.Laying.{commands_log, names, packets_log}
use Rattle.cts_log.specs.Cycling.{CycleData}
use Rattle.cts_log.specs.Files.{log_head, log_head_len}
use Rattle.cts_log.specs.Logged.{Logged}
use Rattle.cts_log.specs.declared.kind.LogKind.{LogKind as FileKind}
use Rattle.cts_log.specs.declared.kind.LogKind.TheVariants.{Tlm as TlmFile, Cmd as CmdFile}
use Rattle.cts_log_parts.specs.Grouping.{size_after}
use Rattle.cts_log_parts.specs.Parts.{counted, entry_len, groups_of, log_parts}
use Rattle.cts_outside.specs.declared.vault.LogKind.{LogKind}
use Rattle.cts_outside.specs.declared.vault.LogKind.TheVariants.{Tlm, Cmd}
use Rattle.cts_trace.specs.Routing.{heading_of}

-- which log file a log of the vault is
abbrev pub file_kind : LogKind → FileKind
file_kind Tlm = TlmFile
file_kind Cmd = CmdFile

-- what the entries give to a log: the packets of the interfaces that are logged, or the commands for these
abbrev pub entries_log : LogKind → SiteData → List Entry → List ℕ
entries_log Tlm site entries = packets_log site entries
entries_log Cmd site entries = commands_log site entries

-- the head of a log, in the site's layout and with the digest of the definitions
abbrev pub head_of : LogKind → SiteData → List ℕ → List ℕ
head_of kind site digest = log_head (file_kind kind) (has_flags site.log_layout) digest

-- a log after some entries, in one part
abbrev pub log : LogKind → SiteData → List ℕ → List Entry → List ℕ
log kind site digest entries = head_of kind site digest ++ entries_log kind site entries

-- ---- as a reader of the log sees it

-- whether an entry stands in a log
abbrev pub is_in_log : LogKind → SiteData → Entry → Bool
is_in_log Tlm site e = packets_from (is_logged site) e
is_in_log Cmd site e = commands_to (is_logged site) e

-- what a log says of an entry: where its layout has no flags, no packet is told to be stored
abbrev pub logged_as : SiteData → Entry → Logged
logged_as site e = record { heading = heading_of (names site e.what) (has_flags site.log_layout && stored_of e.what) e.time; bytes = bytes_of e.what }

-- the entries of a log
abbrev pub logged : LogKind → SiteData → List Entry → List Logged
logged kind site entries = map (logged_as site) (filter (is_in_log kind site) entries)

-- ---- in parts

-- the parts of a log after some entries: each has its head and the longest beginning of the entries that are left with which it is no longer
-- than the site's cycle, but at least one; without a cycle, or without entries, there is one part
abbrev pub parts : LogKind → SiteData → List ℕ → List Entry → List (List ℕ)
parts kind site digest entries = log_parts (file_kind kind) (has_flags site.log_layout) digest site.log_cycle (logged kind site entries)

-- the entries of each part
abbrev pub groups : LogKind → SiteData → List Entry → List (List Logged)
groups kind site entries = groups_of (has_flags site.log_layout) site.log_cycle (logged kind site entries)

-- what a cycle of the site counts after these entries: how long the last part is
abbrev pub counted_after : LogKind → SiteData → List Entry → CycleData
counted_after kind site entries = record {
  limit = site.log_cycle;
  size = counted site.log_cycle (size_after (entry_len (has_flags site.log_layout)) site.log_cycle log_head_len (logged kind site entries));
}

-- Without a cycle a log is one part.
abbrev pub OnePartWithoutCycle : Type 0
OnePartWithoutCycle = (kind : LogKind) (site : SiteData) (digest : List ℕ) (entries : List Entry) → site.log_cycle ≡ None
    → parts kind site digest entries ≡ log kind site digest entries ∷ []
