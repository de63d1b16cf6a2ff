-- Packets that are handed on: put by PREIDENTIFIED in the words of one site, and heard by an interface of another.
use Rattle.std.specs.Prelude.{◌≡◌, ◌≢◌, ◌<◌, ◌^◌, ℕ, Bool, true, ◌&&◌, List, [], ◌∷◌, ◌++◌, length, map, Option}
use Rattle.std.specs.List.{AllByRecursion}
use Rattle.cts_connection.specs.Routings.{site_routing}
use Rattle.cts_core.specs.Environments.{environment_of}
use Rattle.cts_core.specs.Runs.{Did, Finished, Runs}
use Rattle.cts_core.specs.States.{opening}
use Rattle.cts_core_laws.specs.Told.{history_of}
use Rattle.cts_def.specs.Makers.{first_slot}
use Rattle.cts_def.specs.Packets.{DefinitionsData}
use Rattle.cts_def.specs.Protocols.{PreidentifiedData}
use Rattle.cts_def.specs.Sites.{SiteData, targets_at}
use Rattle.cts_def.specs.declared.time.Time.{Time}
use Rattle.cts_entry.specs.Histories.{bytes_of, stored_of}
use Rattle.cts_entry.specs.Workers.{is_interface}
use Rattle.cts_entry.specs.declared.entry.Entry.{Entry}
use Rattle.cts_entry.specs.declared.what.What.{What}
use Rattle.cts_entry.specs.declared.what.What.TheVariants.{Opened, Packet, Closed, Command, SetLimits, Enable, LimitsSetIs, Injected, Unrouted, Stop, Ended}
use Rattle.cts_framing.specs.Chains.{framings_at}
use Rattle.cts_framing.specs.Layouts.{has_flags}
use Rattle.cts_framing.specs.Packets.{joined}
use Rattle.cts_ident_laws.specs.Named.{HaveNames, IsOfTargets}
use Rattle.cts_trace_laws.specs.Packets.{Packed, cut_by, put_by}
use Rattle.cts_trace_laws.specs.Streams.{Holds, stream}
use Rattle.cts_table.specs.declared.basis.Basis.{Basis}
use Rattle.cts_trace.specs.Routing.{heading_of, names_in}
use Rattle.cts_play_laws.specs.Hearing.{clock_after, closed_last, first_time, hearing, opened_first}

-- an entry's time, names and bytes, by the names of a site
abbrev pub packed : SiteData → Entry → Packed
packed site e = record { heading = heading_of (names_in (site_routing site) e.what) (stored_of e.what) e.time; bytes = bytes_of e.what }

-- what PREIDENTIFIED puts of it, where it isn't refused
abbrev pub relayed : PreidentifiedData → SiteData → Entry → Option (List ℕ)
relayed d site e = put_by d (packed site e)

-- a time that can be written in a head
abbrev pub IsShortTime : Time → Type 0
IsShortTime t = (t.seconds < 2 ^ 32) × (t.micros < 2 ^ 32)

-- a packet that has bytes, and that is of these targets where a definition fits
abbrev pub IsPacketOf : DefinitionsData → List (List ℕ) → What → Type 0
IsPacketOf d targets Opened = ⊥
IsPacketOf d targets (Packet ident stored bytes) = (bytes ≢ []) × IsOfTargets d targets ident
IsPacketOf d targets (Closed why loss unposted unsent) = ⊥
IsPacketOf d targets (Command interface command bytes) = ⊥
IsPacketOf d targets (SetLimits enabled packet item persistence set limits) = ⊥
IsPacketOf d targets (Enable packet item enabled) = ⊥
IsPacketOf d targets (LimitsSetIs set) = ⊥
IsPacketOf d targets (Injected packet bytes) = ⊥
IsPacketOf d targets (Unrouted why bytes) = ⊥
IsPacketOf d targets Stop = ⊥
IsPacketOf d targets Ended = ⊥

-- an entry that can be handed on to an interface with these targets
pub record CanHandOn (d : DefinitionsData) (targets : List (List ℕ)) (e : Entry) : Type 0 where
  pub time : IsShortTime e.time
  pub packet : IsPacketOf d targets e.what

-- what is carried of what an entry says: without flags no packet is stored
abbrev pub carried : Bool → What → What
carried flagged Opened = Opened
carried flagged (Packet ident stored bytes) = Packet ident (flagged && stored) bytes
carried flagged (Closed why loss unposted unsent) = Closed why loss unposted unsent
carried flagged (Command interface command bytes) = Command interface command bytes
carried flagged (SetLimits enabled packet item persistence set limits) = SetLimits enabled packet item persistence set limits
carried flagged (Enable packet item enabled) = Enable packet item enabled
carried flagged (LimitsSetIs set) = LimitsSetIs set
carried flagged (Injected packet bytes) = Injected packet bytes
carried flagged (Unrouted why bytes) = Unrouted why bytes
carried flagged Stop = Stop
carried flagged Ended = Ended

-- the entry of the interface to which it is handed on: it differs in its maker, and without flags it is not stored
abbrev pub handed : Bool → ℕ → Entry → Entry
handed flagged m e = record e { by = m; what = carried flagged e.what }

-- the history of a connection that has these, whose clock was set to these times, and that held so many bytes at its end
abbrev pub handed_history : Bool → ℕ → List Time → List Entry → ℕ → List Entry
handed_history flagged m times es held = opened_first m ∷ (map (handed flagged m) es ++ closed_last m (clock_after first_time times) held ∷ [])

-- An interface that hears PREIDENTIFIED with these parameters, over the definitions that another site has.
pub record IsHearer (d : PreidentifiedData) (above below : SiteData) (m : ℕ) : Type 0 where
  pub few : m < first_slot
  pub is_interface : is_interface below m ≡ true
  pub chain : framings_at below m ≡ cut_by d ∷ []
  pub definitions : below.definitions ≡ above.definitions
  pub names : HaveNames below.definitions

-- Such an interface is handed the first bytes of what is put of some entries, cut into pieces: its history has between its Opened and its
-- Closed exactly the entries whose spellings stand whole in these bytes, with their times, idents and bytes, and with their stored flags
-- where heads have flags. Its Closed counts as held
-- what follows the last of them.
abbrev pub AreHandedOn : Type 0
AreHandedOn = (d : PreidentifiedData) (above : SiteData) (base : Basis) (m : ℕ) (es : List Entry)
    (pieces : List (List ℕ)) (more : List ℕ) (times : List Time) (dids : List Did)
    → IsHearer d above base.site m → AllByRecursion (CanHandOn base.site.definitions (targets_at base.site.interfaces m)) es
    → joined pieces ++ more ≡ stream (relayed d above) es → Runs (environment_of base) opening (hearing m pieces times) dids Finished
    → (whole : List Entry) × (rest : List ℕ) × Holds (relayed d above) es (joined pieces) whole rest
    × (history_of dids ≡ handed_history (has_flags d.layout) m times whole (length rest))
