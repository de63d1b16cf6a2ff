-- A log file that is played.
use Rattle.std.specs.Prelude.{◌≡◌, ◌≤◌, ℕ, ◌+◌, Bool, List, ◌++◌, length, map}
use Rattle.std.specs.List.{AllByRecursion, flat_map}
use Rattle.cts_core.specs.Environments.{site_environment}
use Rattle.cts_core.specs.Runs.{Did, Ending, Finished, Runs}
use Rattle.cts_core.specs.States.{opening}
use Rattle.cts_core_laws.specs.Told.{history_of}
use Rattle.cts_def.specs.Sites.{SiteData}
use Rattle.cts_def.specs.declared.time.Time.{Time}
use Rattle.cts_entry.specs.Histories.{bytes_in}
use Rattle.cts_entry.specs.Legal.{most_bytes, most_entries}
use Rattle.cts_entry.specs.declared.entry.Entry.{Entry}
use Rattle.cts_encode.specs.ReadBack.{read_as}
use Rattle.cts_framing.specs.Heads.{AreBytes}
use Rattle.cts_framing.specs.Layouts.{has_flags}
use Rattle.cts_framing.specs.Packets.{joined}
use Rattle.cts_log.specs.Files.{log_head}
use Rattle.cts_log.specs.Logged.{Logged, entry_bytes}
use Rattle.cts_log.specs.Reading.{IsLogRead}
use Rattle.cts_log.specs.declared.kind.LogKind.{LogKind}
use Rattle.cts_log.specs.declared.kind.LogKind.TheVariants.{Tlm}
use Rattle.cts_ident_laws.specs.Named.{HaveNames}
use Rattle.cts_play.specs.Played.{played}
use Rattle.cts_play_laws.specs.Handing.{handed_history, packed}
use Rattle.cts_play_laws.specs.Hearing.{MayBeSet, MayCome, hearing}
use Rattle.cts_play_laws.specs.Plays.{CanPlay, log_in, logged_packets}

-- what a log holds of an entry of a site: without flags nothing is stored
abbrev pub logged_of : Bool → SiteData → Entry → Logged
logged_of flagged site e = record { heading = read_as flagged (packed site e).heading; bytes = (packed site e).bytes }

-- A file is the log of packets of a history of this site, in this layout, with some digest.
pub record IsLogOf (layout : ℕ) (site : SiteData) (history : List Entry) (file : List ℕ) : Type 0 where
  pub names : HaveNames site.definitions
  pub digest : List ℕ
  pub digest_len : length digest ≡ 16
  pub digest_bytes : AreBytes digest
  pub can : AllByRecursion (CanPlay layout site (played layout site)) (logged_packets site history)
  pub file_is : file ≡ log_head Tlm (has_flags layout) digest ++ log_in layout site history

-- However it is read, its entries are those packets, up to the end of the file.
abbrev pub LogFilesAreRead : Type 0
LogFilesAreRead = (layout : ℕ) (site : SiteData) (history : List Entry) (file : List ℕ) (kind : LogKind) (flagged : Bool) (entries : List Logged) (place : ℕ)
    → IsLogOf layout site history file → IsLogRead file kind flagged entries place
    → (kind ≡ Tlm) × (flagged ≡ has_flags layout) × (entries ≡ map (logged_of (has_flags layout) site) (logged_packets site history)) × (place ≡ length file)

-- a history has room for an Opened and these packets
pub record HaveRoom (packets : List Entry) : Type 0 where
  pub few : 1 + length packets ≤ most_entries
  pub short : bytes_in packets ≤ most_bytes

-- Where the pieces are these entries, laid out one after another, all is done where a history has room for the packets.
abbrev pub LogFilesEnd : Type 0
LogFilesEnd = (layout : ℕ) (site : SiteData) (history : List Entry) (file : List ℕ) (kind : LogKind) (flagged : Bool) (entries : List Logged) (place : ℕ)
    (pieces : List (List ℕ)) (times : List Time) (dids : List Did) (ending : Ending)
    → IsLogOf layout site history file → IsLogRead file kind flagged entries place
    → joined pieces ≡ flat_map (entry_bytes (has_flags layout)) entries → MayCome pieces → MayBeSet times → HaveRoom (logged_packets site history)
    → Runs (site_environment (played layout site)) opening (hearing 0 pieces times) dids ending → ending ≡ Finished

-- And a run in the site that plays it gives the packets again.
abbrev pub LogFilesArePlayed : Type 0
LogFilesArePlayed = (layout : ℕ) (site : SiteData) (history : List Entry) (file : List ℕ) (kind : LogKind) (flagged : Bool) (entries : List Logged) (place : ℕ)
    (pieces : List (List ℕ)) (times : List Time) (dids : List Did) → IsLogOf layout site history file → IsLogRead file kind flagged entries place
    → joined pieces ≡ flat_map (entry_bytes (has_flags layout)) entries
    → Runs (site_environment (played layout site)) opening (hearing 0 pieces times) dids Finished
    → history_of dids ≡ handed_history (has_flags layout) 0 times (logged_packets site history) 0
