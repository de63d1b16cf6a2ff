-- Laws of the logs that a scribe keeps.
use Rattle.std.specs.Prelude.{◌≡◌, ℕ, List, ◌++◌, length, map}
use Rattle.std.specs.List.{All, flat_map}
use Rattle.cts_def.specs.Makers.{scribe}
use Rattle.cts_def.specs.Sites.{IsSoundSite, SiteData}
use Rattle.cts_entry.specs.declared.entry.Entry.{Entry}
use Rattle.cts_framing.specs.Heads.{AreBytes}
use Rattle.cts_framing.specs.Layouts.{has_flags}
use Rattle.cts_log.specs.Logged.{FitsLogged, Logged}
use Rattle.cts_log_parts.specs.Grouping.{BeginsParts}
use Rattle.cts_log_parts.specs.Stops.{AreLeft, AreRead, read_of}
use Rattle.cts_log_parts.specs.Told.{AreBegunParts}
use Rattle.cts_outside.specs.Vaults.{Log, parts_of}
use Rattle.cts_outside.specs.declared.vault.LogKind.{LogKind}
use Rattle.cts_table.specs.Keeping.{IsKept}
use Rattle.cts_table.specs.declared.basis.Basis.{Basis}
use Rattle.cts_turn.specs.Lists.{StartsWith}
use Rattle.cts_worker.specs.Followed.{HaveEnded}
use Rattle.cts_scribe.specs.Logs.{entries_log, file_kind, groups, log, logged, parts}

-- The log of more entries is the log, and then what those give to it.
abbrev pub LogsGrow : Type 0
LogsGrow = (kind : LogKind) (site : SiteData) (digest : List ℕ) (xs ys : List Entry) → log kind site digest (xs ++ ys) ≡ log kind site digest xs
    ++ entries_log kind site ys

-- ---- stops

-- What a stop of the program or of the system leaves of a log: of each part a file, which is a beginning of what was appended to the part, with all
-- that was synced, so each but the last is whole; of a last part to which nothing was appended there may be none.
abbrev pub IsAfterStop : Log → List (List ℕ) → Type 0
IsAfterStop l files = AreLeft (parts_of l) files

-- the entries of a log that lie whole in files, each of which has the entries of a part as far as it goes
abbrev pub logged_within : LogKind → SiteData → List Entry → List (List ℕ) → List Logged
logged_within kind site entries files = read_of (has_flags site.log_layout) (groups kind site entries) files

-- Files are a beginning of the parts of the log of some entries. They are read, one after the other, as the entries that lie whole in them, and
-- these are a beginning of the log's entries: each file but the last is read up to its end and has the first 128 bytes that all have; the last one
-- is read so where it has its whole head, and with less it is no log.
pub record AreReadable (kind : LogKind) (site : SiteData) (digest : List ℕ) (entries : List Entry) (files : List (List ℕ)) : Type 0 where
  pub beginning : BeginsParts (parts kind site digest entries) files
  pub each : List (List Logged)
  pub read : AreRead (file_kind kind) (has_flags site.log_layout) digest files each
  pub all : flat_map (λ g. g) each ≡ logged_within kind site entries files
  pub in_order : StartsWith (logged kind site entries) (logged_within kind site entries files)

-- What a stop leaves of a log whose parts are a beginning of those of the log of some entries: it is readable, and each entry that lies whole in what
-- was synced is read.
pub record IsLeftReadable (kind : LogKind) (site : SiteData) (digest : List ℕ) (entries : List Entry) (l : Log) (files : List (List ℕ)) : Type 0 where
  pub readable : AreReadable kind site digest entries files
  pub synced : StartsWith (logged_within kind site entries files) (logged_within kind site entries (map (λ p. p.synced) (parts_of l)))

abbrev pub StopsLeaveLogs : Type 0
StopsLeaveLogs = (kind : LogKind) (site : SiteData) (digest : List ℕ) (entries : List Entry) (l : Log) (files : List (List ℕ)) → length digest ≡ 16
    → AreBytes digest → All (FitsLogged (has_flags site.log_layout)) (logged kind site entries)
    → AreBegunParts l (parts kind site digest entries) → IsAfterStop l files → IsLeftReadable kind site digest entries l files

-- The same of a site's history: what a stop leaves of a log whose parts are a beginning of those of the log of some beginning of the history.
abbrev pub StopsLeaveLogsOf : SiteData → List Entry → List ℕ → Type 0
StopsLeaveLogsOf site history digest = (kind : LogKind) (entries : List Entry) (l : Log) (files : List (List ℕ)) → StartsWith history entries
    → AreBegunParts l (parts kind site digest entries) → IsAfterStop l files → IsLeftReadable kind site digest entries l files

-- ---- the closed history

-- Where every worker but the scribe has ended, whatever comes after gives nothing to the logs: neither to their parts nor to their bytes.
abbrev pub ClosedLogsAreWhole : Type 0
ClosedLogsAreWhole = (b : Basis) (stood more : List Entry) → IsSoundSite b.site → IsKept b (stood ++ more) → HaveEnded b.site scribe stood
    → (kind : LogKind) (digest : List ℕ) → (parts kind b.site digest (stood ++ more) ≡ parts kind b.site digest stood)
    × (log kind b.site digest (stood ++ more) ≡ log kind b.site digest stood)
