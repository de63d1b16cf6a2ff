-- A hub: what a router of one site puts is heard by an interface of another.
use Rattle.std.specs.Prelude.{◌⊎◌, ◌+◌, ◌≤◌, ◌≡◌, ℕ, true, List, [], ◌∷◌, ◌++◌, length, slice_range}
use Rattle.std.specs.List.{AllByRecursion, filter, list_any}
use Rattle.cts_connection.specs.Routings.{is_routed, site_routing, writers_at}
use Rattle.cts_core.specs.Environments.{environment_of, site_environment}
use Rattle.cts_core.specs.Runs.{Did, Ending, Finished, Runs}
use Rattle.cts_core.specs.States.{opening}
use Rattle.cts_core_laws.specs.Told.{history_of, told}
use Rattle.cts_def.specs.Items.{is_same}
use Rattle.cts_def.specs.Makers.{router_of}
use Rattle.cts_def.specs.Protocols.{Preidentified, PreidentifiedData}
use Rattle.cts_def.specs.Sites.{IsSoundSite, SiteData, targets_at}
use Rattle.cts_entry.specs.Histories.{packets_from}
use Rattle.cts_entry.specs.declared.entry.Entry.{Entry}
use Rattle.cts_framing.specs.Layouts.{has_flags}
use Rattle.cts_framing.specs.Packets.{joined}
use Rattle.cts_ident.specs.Identification.{router_targets}
use Rattle.cts_trace_laws.specs.Streams.{Holds, spoken}
use Rattle.cts_table.specs.declared.basis.Basis.{Basis}
use Rattle.cts_trace.specs.Routing.{spell}
use Rattle.cts_trace.specs.Streams.{routed}
use Rattle.cts_play_laws.specs.Handing.{CanHandOn, IsHearer, IsShortTime, handed_history, relayed}
use Rattle.cts_play_laws.specs.Hearing.{MayCome, hearing}
use Rattle.cts_play_laws.specs.Keeping.{HaveStages}
use Rattle.cts_play_laws.specs.Putting.{last_put}
use Rattle.cts_entry.specs.Workers.{is_slot}
use Rattle.cts_entry.specs.declared.event.Event.{Event}
use Rattle.cts_entry.specs.declared.what.What.TheVariants.{Opened}
use Rattle.cts_trace.specs.Connections.{Says}

-- A slot of one site is tied to an interface of another: what the slot writes is one PREIDENTIFIED, which the interface reads with the same
-- parameters, over the same definitions, and the interface has all targets of the interfaces that are routed to the slot.
pub record AreTied (d : PreidentifiedData) (above : SiteData) (slot : ℕ) (below : SiteData) (m : ℕ) : Type 0 where
  pub writes : writers_at above slot ≡ Preidentified d ∷ []
  pub hearer : IsHearer d above below m
  pub targets : (name : List ℕ) → list_any (is_same name) (router_targets above (router_of slot)) ≡ true
      → list_any (is_same name) (targets_at below.interfaces m) ≡ true

-- the packets that are routed to the slot among some entries
abbrev pub routed_packets : SiteData → ℕ → List Entry → List Entry
routed_packets site slot entries = filter (packets_from (is_routed site slot)) entries

-- Each packet of the history that is routed has bytes and a time of 32 bits, and is one of its maker's targets where a definition fits.
abbrev pub CanBeRouted : SiteData → ℕ → List Entry → Type 0
CanBeRouted site slot entries =
    AllByRecursion (λ (e : Entry). CanHandOn site.definitions (targets_at site.interfaces e.by) e) (routed_packets site slot entries)

-- What is routed to the slot from a place of the history on is handed to the interface, or its first bytes are, however they are cut: its
-- history has between its Opened and its Closed exactly the packets of the routed interfaces whose spellings stand whole in these bytes,
-- in their order, with their times, idents and bytes, and with their stored flags where heads have flags,
-- without those whose spelling is refused. Its Closed counts as held the bytes after these.
abbrev pub HubsHandOn : Type 0
HubsHandOn = (d : PreidentifiedData) (above : SiteData) (slot : ℕ) (base : Basis) (m : ℕ) (history : List Entry)
    (from end : ℕ) (pieces : List (List ℕ)) (more : List ℕ) (dids : List Did)
    → AreTied d above slot base.site m → CanBeRouted above slot (slice_range history from end)
    → joined pieces ++ more ≡ routed (spell (site_routing above) slot) (is_routed above slot) history from end
    → Runs (environment_of base) opening (hearing m pieces []) dids Finished
    → (whole : List Entry) × (rest : List ℕ) × Holds (relayed d above) (routed_packets above slot (slice_range history from end)) (joined pieces) whole rest
    × (history_of dids ≡ handed_history (has_flags d.layout) m [] whole (length rest))

-- All that is routed hands on all of them but for those that are refused, and nothing is held.
abbrev pub HubsHandOnAll : Type 0
HubsHandOnAll = (d : PreidentifiedData) (above : SiteData) (slot : ℕ) (base : Basis) (m : ℕ) (history : List Entry)
    (from end : ℕ) (pieces : List (List ℕ)) (dids : List Did)
    → AreTied d above slot base.site m → CanBeRouted above slot (slice_range history from end)
    → joined pieces ≡ routed (spell (site_routing above) slot) (is_routed above slot) history from end
    → Runs (environment_of base) opening (hearing m pieces []) dids Finished
    → history_of dids ≡ handed_history (has_flags d.layout) m [] (spoken (relayed d above) (routed_packets above slot (slice_range history from end))) 0

-- ---- over both runs

-- the times of these entries have 32 bits
abbrev pub HaveShortTimes : List Entry → Type 0
HaveShortTimes history = AllByRecursion (λ (e : Entry). IsShortTime e.time) history

-- the places of a history from directly after one of a slot's Opened up to a later one, or no places
abbrev pub IsStretch : ℕ → List Entry → ℕ → ℕ → Type 0
IsStretch slot history from end =
    ((from ≡ 0) × (end ≡ 0))
    ⊎ ((before : List Entry) × (opened : Entry) × (later : List Entry) × (history ≡ before ++ opened ∷ later) × Says slot opened Opened
    × (from ≡ length before + 1) × (end ≤ length history))

-- What a hub hands on: of the packets that are routed to the slot in such a stretch of the history above, those whose spellings stand
-- whole in these bytes.
pub record HandsOn (d : PreidentifiedData) (above : SiteData) (slot m : ℕ) (history : List Entry) (bytes : List ℕ) (below : List Entry) : Type 0 where
  pub from : ℕ
  pub end : ℕ
  pub stretch : IsStretch slot history from end
  pub whole : List Entry
  pub rest : List ℕ
  pub holds : Holds (relayed d above) (routed_packets above slot (slice_range history from end)) bytes whole rest
  pub below_is : below ≡ handed_history (has_flags d.layout) m [] whole (length rest)

-- A run above, and a run below of what the slot put on its last connection, cut into pieces in any way: the run below does all its
-- events, and its history is what the hub hands on.
abbrev pub HubsRun : Type 0
HubsRun = (d : PreidentifiedData) (above below : SiteData) (slot m : ℕ) (events : List Event) (dids : List Did) (ending : Ending)
    (pieces : List (List ℕ)) (below_dids : List Did) (below_ending : Ending)
    → IsSoundSite above → HaveStages above → AreTied d above slot below m → is_slot above slot ≡ true → HaveShortTimes (history_of dids)
    → Runs (site_environment above) opening events dids ending → joined pieces ≡ last_put (told slot events dids) → MayCome pieces
    → Runs (site_environment below) opening (hearing m pieces []) below_dids below_ending
    → (below_ending ≡ Finished) × HandsOn d above slot m (history_of dids) (joined pieces) (history_of below_dids)
