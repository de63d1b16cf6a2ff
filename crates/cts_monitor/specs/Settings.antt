-- The limits sets, and what each item's limits, persistence and enabling are, by searches over the one list.
use Rattle.std.specs.Prelude.{ℕ, ◌==◌, ◌&&◌, if◌then◌else◌, List, [], ◌∷◌, ◌++◌, Option, None, Some, option_map, is_some, unwrap_or, slice_get, Bool}
use Rattle.std.specs.Prelude.{true, false}
use Rattle.std.specs.List.{flat_map}
use Rattle.cts_def.specs.declared.limits.Limits.{Limits}
use Rattle.cts_def.specs.declared.limits_setup.LimitsSetup.{LimitsSetup}
use Rattle.cts_def.specs.Items.{ItemData, is_same}
use Rattle.cts_def.specs.Packets.{PacketData, default_set}
use Rattle.cts_def.specs.Sites.{SiteData}
use Rattle.cts_entry.specs.Histories.{latest, or_earlier}
use Rattle.cts_monitor.specs.declared.types.LimitsUsed.{LimitsUsed}
use Rattle.cts_entry.specs.declared.entry.Entry.{Entry}
use Rattle.cts_entry.specs.declared.what.What.{What}
use Rattle.cts_entry.specs.declared.what.What.TheVariants.{Opened, Packet, Closed, Command, SetLimits, Enable, LimitsSetIs, Injected, Unrouted, Stop, Ended}

-- an item with the packet that it belongs to, and the numbers of both
pub record Watched : Type 0 where
  pub packet : PacketData
  pub item : ItemData
  pub at : ℕ
  pub index : ℕ

-- ---- the current set

-- the set that an entry makes the current one
abbrev pub set_chosen : What → Option (List ℕ)
set_chosen Opened = None
set_chosen (Packet ident stored bytes) = None
set_chosen (Closed why loss unposted unsent) = None
set_chosen (Command interface command bytes) = None
set_chosen (SetLimits enabled packet item persistence set limits) = None
set_chosen (Enable packet item enabled) = None
set_chosen (LimitsSetIs set) = Some set
set_chosen (Injected packet bytes) = None
set_chosen (Unrouted why bytes) = None
set_chosen Stop = None
set_chosen Ended = None

abbrev pub choice_told : Entry → Option (List ℕ)
choice_told e = set_chosen e.what

-- the current set: that of the last LimitsSetIs
abbrev pub current_set : List Entry → List ℕ
current_set h = unwrap_or (latest choice_told h) default_set

-- ---- the limits of an item

-- the set that an entry gives an item
abbrev pub sets_in_what : ℕ → ℕ → What → List (List ℕ × Limits)
sets_in_what p i Opened = []
sets_in_what p i (Packet ident stored bytes) = []
sets_in_what p i (Closed why loss unposted unsent) = []
sets_in_what p i (Command interface command bytes) = []
sets_in_what p i (SetLimits enabled packet item persistence set limits) = if packet == p && item == i then (set, limits) ∷ [] else []
sets_in_what p i (Enable packet item enabled) = []
sets_in_what p i (LimitsSetIs set) = []
sets_in_what p i (Injected packet bytes) = []
sets_in_what p i (Unrouted why bytes) = []
sets_in_what p i Stop = []
sets_in_what p i Ended = []

abbrev pub sets_told : ℕ → ℕ → Entry → List (List ℕ × Limits)
sets_told p i e = sets_in_what p i e.what

-- all sets that entries give an item, in their order
abbrev pub flat_told : ℕ → ℕ → List Entry → List (List ℕ × Limits)
flat_told p i h = flat_map (sets_told p i) h

abbrev pub sets_with : Option LimitsSetup → List (List ℕ × Limits) → List (List ℕ × Limits)
sets_with None told = []
sets_with (Some setup) told = setup.sets ++ told

-- the sets of an item in the order in which they were given: by its definition, and then by entries
abbrev pub sets_of : Watched → List Entry → List (List ℕ × Limits)
sets_of w h = sets_with w.item.limits (flat_map (sets_told w.at w.index) h)

abbrev pub limits_named : List ℕ → (List ℕ × Limits) → Option Limits
limits_named set s = if is_same set s.0 then Some s.1 else None

-- the limits of a set: those given last
abbrev pub limits_in : List ℕ → List (List ℕ × Limits) → Option Limits
limits_in set sets = latest (limits_named set) sets

-- the limits that an entry gives an item in a set
abbrev pub limits_told : List ℕ → ℕ → ℕ → Entry → Option Limits
limits_told set p i e = limits_in set (sets_told p i e)

-- the limits that count where a set is asked for: those of the set, and else those of DEFAULT
abbrev pub limits_used : List ℕ → List (List ℕ × Limits) → Option Limits
limits_used set sets = or_earlier (limits_in set sets) (limits_in default_set sets)

-- ---- the persistence, and whether samples are taken

-- the persistence that an entry gives an item
abbrev pub persistence_in_what : ℕ → ℕ → What → Option ℕ
persistence_in_what p i Opened = None
persistence_in_what p i (Packet ident stored bytes) = None
persistence_in_what p i (Closed why loss unposted unsent) = None
persistence_in_what p i (Command interface command bytes) = None
persistence_in_what p i (SetLimits enabled packet item persistence set limits) = if packet == p && item == i then Some persistence else None
persistence_in_what p i (Enable packet item enabled) = None
persistence_in_what p i (LimitsSetIs set) = None
persistence_in_what p i (Injected packet bytes) = None
persistence_in_what p i (Unrouted why bytes) = None
persistence_in_what p i Stop = None
persistence_in_what p i Ended = None

abbrev pub persistence_told : ℕ → ℕ → Entry → Option ℕ
persistence_told p i e = persistence_in_what p i e.what

-- a state's colour counts at once
abbrev pub first_persistence : Option LimitsSetup → ℕ
first_persistence None = 1
first_persistence (Some setup) = setup.persistence

abbrev pub persistence_of : Watched → List Entry → ℕ
persistence_of w h = unwrap_or (latest (persistence_told w.at w.index) h) (first_persistence w.item.limits)

-- the enabling that an entry gives an item
abbrev pub enabling_in_what : ℕ → ℕ → What → Option Bool
enabling_in_what p i Opened = None
enabling_in_what p i (Packet ident stored bytes) = None
enabling_in_what p i (Closed why loss unposted unsent) = None
enabling_in_what p i (Command interface command bytes) = None
enabling_in_what p i (SetLimits enabled packet item persistence set limits) = if packet == p && item == i then Some enabled else None
enabling_in_what p i (Enable packet item enabled) = if packet == p && item == i then Some enabled else None
enabling_in_what p i (LimitsSetIs set) = None
enabling_in_what p i (Injected packet bytes) = None
enabling_in_what p i (Unrouted why bytes) = None
enabling_in_what p i Stop = None
enabling_in_what p i Ended = None

abbrev pub enabling_told : ℕ → ℕ → Entry → Option Bool
enabling_told p i e = enabling_in_what p i e.what

-- state colours are looked at from the start
abbrev pub first_enabled : Option LimitsSetup → Bool
first_enabled None = true
first_enabled (Some setup) = setup.enabled

abbrev pub enabled_of : Watched → List Entry → Bool
enabled_of w h = unwrap_or (latest (enabling_told w.at w.index) h) (first_enabled w.item.limits)

-- what an entry says may change what counts for an item
abbrev pub may_set_in_what : ℕ → ℕ → What → Bool
may_set_in_what p i Opened = false
may_set_in_what p i (Packet ident stored bytes) = false
may_set_in_what p i (Closed why loss unposted unsent) = false
may_set_in_what p i (Command interface command bytes) = false
may_set_in_what p i (SetLimits enabled packet item persistence set limits) = packet == p && item == i
may_set_in_what p i (Enable packet item enabled) = packet == p && item == i
may_set_in_what p i (LimitsSetIs set) = true
may_set_in_what p i (Injected packet bytes) = false
may_set_in_what p i (Unrouted why bytes) = false
may_set_in_what p i Stop = false
may_set_in_what p i Ended = false

abbrev pub may_set : ℕ → ℕ → Entry → Bool
may_set p i e = may_set_in_what p i e.what

-- ---- what an item's limits are, where a set is asked for

-- whether the item has the set of its own, the limits that count, and the two settings
abbrev pub limits_used_of : Watched → List ℕ → List Entry → Option LimitsUsed
limits_used_of w set h =
    option_map (λ l. record { own = is_some (limits_in set (sets_of w h)); limits = l; persistence = persistence_of w h; enabled = enabled_of w h })
    (limits_used set (sets_of w h))

-- ---- items by their numbers

abbrev pub watched : PacketData → ItemData → ℕ → ℕ → Watched
watched packet item p i = record { packet = packet; item = item; at = p; index = i }

abbrev pub watched_of : Option ItemData → PacketData → ℕ → ℕ → Option Watched
watched_of None packet p i = None
watched_of (Some item) packet p i = Some (watched packet item p i)

abbrev pub watched_in : Option PacketData → ℕ → ℕ → Option Watched
watched_in None p i = None
watched_in (Some packet) p i = watched_of (slice_get packet.items i) packet p i

-- an item of the site by its numbers
abbrev pub watched_at : SiteData → ℕ → ℕ → Option Watched
watched_at site p i = watched_in (slice_get site.definitions.telemetry p) p i

abbrev pub limits_used_in : Option Watched → List ℕ → List Entry → Option LimitsUsed
limits_used_in None set h = None
limits_used_in (Some w) set h = limits_used_of w set h

abbrev pub limits_of : SiteData → ℕ → ℕ → List ℕ → List Entry → Option LimitsUsed
limits_of site p i set h = limits_used_in (watched_at site p i) set h
