-- Events: the changes of limits states, in the order of entries, and at one entry in the order of items.
use Rattle.std.specs.Prelude.{ℕ, ◌+◌, nat_le, List, [], ◌∷◌, ◌++◌, length, Option, None, Some, slice_get, Bool}
use Rattle.std.specs.List.{filter}
use Rattle.cts_def.specs.Items.{ItemData}
use Rattle.cts_def.specs.Packets.{PacketData}
use Rattle.cts_def.specs.Sites.{SiteData}
use Rattle.cts_def.specs.declared.ident.Ident.{Ident}
use Rattle.cts_def.specs.declared.ident.Ident.TheVariants.{Known, Unknown}
use Rattle.cts_entry.specs.declared.entry.Entry.{Entry}
use Rattle.cts_limits.specs.declared.running.Change.{Change}
use Rattle.cts_limits.specs.States.{change_from}
use Rattle.cts_monitor.specs.Gathered.{gathered}
use Rattle.cts_monitor.specs.Brought.{brings}
use Rattle.cts_monitor.specs.Settings.{Watched}
use Rattle.cts_monitor.specs.Samples.{state_after}
use Rattle.cts_monitor.specs.declared.types.LimitsEvent.{LimitsEvent}

abbrev pub as_event : ℕ → ℕ → ℕ → Option Change → List LimitsEvent
as_event at packet item None = []
as_event at packet item (Some c) = record { at = at; packet = packet; item = item; before = c.before; after = c.after } ∷ []

-- the event of an item at an entry, where its state is another one after the entry
abbrev pub event_of : List Entry → Entry → Watched → List LimitsEvent
event_of before e w = as_event (length before) w.at w.index (change_from (state_after w before) (state_after w (before ++ e ∷ [])))

-- those of a packet's items, of which the first here has number i
abbrev pub item_events : List Entry → Entry → PacketData → ℕ → ℕ → List ItemData → List LimitsEvent
item_events before e packet p i [] = []
item_events before e packet p i (item ∷ items) =
    event_of before e (record { packet = packet; item = item; at = p; index = i }) ++ item_events before e packet p (i + 1) items

abbrev pub packet_events : List Entry → Entry → ℕ → Option PacketData → List LimitsEvent
packet_events before e p None = []
packet_events before e p (Some packet) = item_events before e packet p 0 packet.items

abbrev pub ident_events : SiteData → List Entry → Entry → Ident → List LimitsEvent
ident_events site before e (Known p) = packet_events before e p (slice_get site.definitions.telemetry p)
ident_events site before e Unknown = []

abbrev pub brought_events : SiteData → List Entry → Entry → Option (Ident × List ℕ) → List LimitsEvent
brought_events site before e None = []
brought_events site before e (Some b) = ident_events site before e b.0

-- the events at an entry: those of the items of the packet that it brings
abbrev pub events_at : SiteData → List Entry → Entry → List LimitsEvent
events_at site before e = brought_events site before e (brings e.what)

-- the events of a history
abbrev pub events : SiteData → List Entry → List LimitsEvent
events site h = gathered (events_at site) h

abbrev pub is_from : ℕ → LimitsEvent → Bool
is_from n event = nat_le n event.at

-- those at entries from this one on
abbrev pub events_from : SiteData → List Entry → ℕ → List LimitsEvent
events_from site h n = filter (is_from n) (events site h)
