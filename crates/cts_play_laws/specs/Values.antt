-- What the values, counts and limits events of a history hang on.
use Rattle.std.specs.Prelude.{◌≡◌, ℕ, true, Bool, ◌&&◌, List, map, option_to_list}
use Rattle.std.specs.List.{AllByRecursion, flat_map}
use Rattle.cts_connection.specs.Routings.{is_logged}
use Rattle.cts_def.specs.Sites.{SiteData}
use Rattle.cts_def.specs.declared.ident.Ident.{Ident}
use Rattle.cts_def.specs.declared.time.Time.{Time}
use Rattle.cts_entry.specs.declared.entry.Entry.{Entry}
use Rattle.cts_entry.specs.declared.what.What.{What}
use Rattle.cts_entry.specs.declared.what.What.TheVariants.{Opened, Packet, Closed, Command, SetLimits, Enable, LimitsSetIs, Injected, Unrouted, Stop, Ended}
use Rattle.cts_table.specs.Lookups.{counts_of}
use Rattle.cts_monitor.specs.Brought.{brings, current_of}
use Rattle.cts_monitor.specs.Events.{events}
use Rattle.cts_monitor.specs.declared.types.LimitsEvent.{LimitsEvent}
use Rattle.cts_play_laws.specs.Handing.{handed_history}
use Rattle.cts_play_laws.specs.Plays.{logged_packets}

-- what its entries bring, in order
abbrev pub brought : List Entry → List (Ident × List ℕ)
brought history = flat_map (λ (e : Entry). option_to_list (brings e.what)) history

-- an entry that changes no setting of limits
abbrev pub SetsNothing : What → Type 0
SetsNothing Opened = Unit {0}
SetsNothing (Packet ident stored bytes) = Unit {0}
SetsNothing (Closed why loss unposted unsent) = Unit {0}
SetsNothing (Command interface command bytes) = Unit {0}
SetsNothing (SetLimits enabled packet item persistence set limits) = ⊥
SetsNothing (Enable packet item enabled) = ⊥
SetsNothing (LimitsSetIs set) = ⊥
SetsNothing (Injected packet bytes) = Unit {0}
SetsNothing (Unrouted why bytes) = Unit {0}
SetsNothing Stop = Unit {0}
SetsNothing Ended = Unit {0}

abbrev pub NothingIsSet : List Entry → Type 0
NothingIsSet history = AllByRecursion (λ (e : Entry). SetsNothing e.what) history

-- a limits event without the number of its entry
abbrev pub unplaced : LimitsEvent → LimitsEvent
unplaced e = record e { at = 0 }

-- Two histories say the same: the current bytes of each packet, the counts of each, and the limits events but for the numbers of their entries.
pub record SaySame (site : SiteData) (h k : List Entry) : Type 0 where
  pub current : (packet : ℕ) → current_of packet h ≡ current_of packet k
  pub counts : (ident : Ident) → counts_of site ident h ≡ counts_of site ident k
  pub events_are : map unplaced (events site h) ≡ map unplaced (events site k)

-- Where no settings are changed, all of this hangs on what the entries bring.
abbrev pub BroughtSaysAll : Type 0
BroughtSaysAll = (site : SiteData) (h k : List Entry) → NothingIsSet h → NothingIsSet k → brought h ≡ brought k → SaySame site h k

-- an entry that is a logged interface's packet, whose stored flag is carried, or an entry that brings and sets nothing
abbrev pub IsOfLogged : Bool → (ℕ → Bool) → ℕ → What → Type 0
IsOfLogged flagged logged by Opened = Unit {0}
IsOfLogged flagged logged by (Packet ident stored bytes) = (logged by ≡ true) × ((flagged && stored) ≡ stored)
IsOfLogged flagged logged by (Closed why loss unposted unsent) = Unit {0}
IsOfLogged flagged logged by (Command interface command bytes) = Unit {0}
IsOfLogged flagged logged by (SetLimits enabled packet item persistence set limits) = ⊥
IsOfLogged flagged logged by (Enable packet item enabled) = ⊥
IsOfLogged flagged logged by (LimitsSetIs set) = ⊥
IsOfLogged flagged logged by (Injected packet bytes) = ⊥
IsOfLogged flagged logged by (Unrouted why bytes) = Unit {0}
IsOfLogged flagged logged by Stop = Unit {0}
IsOfLogged flagged logged by Ended = Unit {0}

-- Where every interface is logged, its stored flags are carried, and nobody injects or sets anything, the played history says the same
-- as the one that was logged.
abbrev pub PlayedSaysSame : Type 0
PlayedSaysSame = (flagged : Bool) (site : SiteData) (history : List Entry) (times : List Time)
    → AllByRecursion (λ (e : Entry). IsOfLogged flagged (is_logged site) e.by e.what) history
    → SaySame site history (handed_history flagged 0 times (logged_packets site history) 0)
