-- The playback of a log of packets.
use Rattle.std.specs.Prelude.{◌≡◌, ◌≤◌, ℕ, true, List, [], length, None}
use Rattle.std.specs.List.{AllByRecursion, filter, list_any}
use Rattle.cts_connection.specs.Routings.{is_logged, site_routing}
use Rattle.cts_core.specs.Environments.{environment_of, site_environment}
use Rattle.cts_core.specs.Runs.{Did, Finished, Runs}
use Rattle.cts_core.specs.States.{opening}
use Rattle.cts_core_laws.specs.Told.{history_of}
use Rattle.cts_def.specs.Protocols.{PreidentifiedData}
use Rattle.cts_def.specs.Sites.{SiteData, targets_at, targets_of}
use Rattle.cts_def.specs.declared.time.Time.{Time}
use Rattle.cts_entry.specs.Histories.{packets_from}
use Rattle.cts_entry.specs.declared.entry.Entry.{Entry}
use Rattle.cts_def.specs.Most.{frame_limit}
use Rattle.cts_framing.specs.Layouts.{has_flags}
use Rattle.cts_framing.specs.Packets.{joined}
use Rattle.cts_log.specs.Logged.{laid_out}
use Rattle.cts_table.specs.declared.basis.Basis.{Basis}
use Rattle.cts_trace.specs.Routing.{names_in}
use Rattle.cts_trace.specs.Streams.{telemetry_log}
use Rattle.cts_def.specs.Items.{is_same}
use Rattle.cts_ident_laws.specs.Named.{HaveNames}
use Rattle.cts_play.specs.Played.{played}
use Rattle.cts_play_laws.specs.Handing.{CanHandOn, IsHearer, handed_history, packed}
use Rattle.cts_play_laws.specs.Hearing.{hearing}

-- frames as a log of this layout has its entries: without a sync pattern, of any size up to the greatest frame
abbrev pub log_frames : ℕ → PreidentifiedData
log_frames layout = record { sync = []; max = None; layout = layout }

-- the log of packets of a history, in this layout
abbrev pub log_in : ℕ → SiteData → List Entry → List ℕ
log_in layout site history = telemetry_log (laid_out (has_flags layout)) (names_in (site_routing site)) (is_logged site) history

-- the packets of logged interfaces
abbrev pub logged_packets : SiteData → List Entry → List Entry
logged_packets site history = filter (packets_from (is_logged site)) history

-- it can be played: as an entry of a log it is no longer than the greatest frame
pub record CanPlay (layout : ℕ) (site below : SiteData) (e : Entry) : Type 0 where
  pub hand : CanHandOn below.definitions (targets_at below.interfaces 0) e
  pub short : length (laid_out (has_flags layout) (packed site e).heading (packed site e).bytes) ≤ frame_limit

-- The log of packets that a history has is played as pieces of an interface that hears its frames: the played history has, between its
-- Opened and its Closed, exactly the packets of logged interfaces, in their order, with their times, idents and bytes,
-- and with their stored flags where heads have flags.
abbrev pub LogsArePlayed : Type 0
LogsArePlayed = (layout : ℕ) (above : SiteData) (base : Basis) (history : List Entry) (pieces : List (List ℕ)) (times : List Time) (dids : List Did)
    → IsHearer (log_frames layout) above base.site 0 → AllByRecursion (CanPlay layout above base.site) (logged_packets above history)
    → joined pieces ≡ log_in layout above history → Runs (environment_of base) opening (hearing 0 pieces times) dids Finished
    → history_of dids ≡ handed_history (has_flags layout) 0 times (logged_packets above history) 0

-- The site in which a log is played hears its frames, and its interface has the targets of all interfaces of the site.
pub record PlaysLogs (layout : ℕ) (site : SiteData) : Type 0 where
  pub hears : HaveNames site.definitions → IsHearer (log_frames layout) site (played layout site) 0
  pub targets : (name : List ℕ) → list_any (is_same name) (targets_at (played layout site).interfaces 0) ≡ list_any (is_same name) (targets_of site.interfaces)
  pub each : (by : ℕ) (name : List ℕ) → list_any (is_same name) (targets_at site.interfaces by) ≡ true
      → list_any (is_same name) (targets_at (played layout site).interfaces 0) ≡ true

abbrev pub AllPlayLogs : Type 0
AllPlayLogs = (layout : ℕ) (site : SiteData) → PlaysLogs layout site

-- So a log of packets is played in it.
abbrev pub LogsArePlayedThere : Type 0
LogsArePlayedThere = (layout : ℕ) (site : SiteData) (history : List Entry) (pieces : List (List ℕ)) (times : List Time) (dids : List Did)
    → HaveNames site.definitions → AllByRecursion (CanPlay layout site (played layout site)) (logged_packets site history)
    → joined pieces ≡ log_in layout site history → Runs (site_environment (played layout site)) opening (hearing 0 pieces times) dids Finished
    → history_of dids ≡ handed_history (has_flags layout) 0 times (logged_packets site history) 0
