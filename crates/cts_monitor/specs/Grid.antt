-- What is kept of all items and the events, after a packet more, and what it stands for.
use Rattle.std.specs.Prelude.{◌≡◌, ℕ, ◌-◌, if◌then◌else◌, List, [], ◌++◌, length, map, slice_get, slice_set, slice_index_or, option_and_then, Option}
use Rattle.std.specs.Prelude.{None, Some, Bool, true, false}
use Rattle.std.specs.List.{filter}
use Rattle.std.specs.Option.{ForSome}
use Rattle.cts_def.specs.Packets.{PacketData}
use Rattle.cts_def.specs.Sites.{SiteData}
use Rattle.cts_def.specs.declared.ident.Ident.{Ident}
use Rattle.cts_def.specs.declared.ident.Ident.TheVariants.{Known, Unknown}
use Rattle.cts_entry.specs.declared.entry.Entry.{Entry}
use Rattle.cts_entry.specs.declared.what.What.{What}
use Rattle.cts_entry.specs.declared.what.What.TheVariants.{Opened, Packet, Closed, Command, SetLimits, Enable, LimitsSetIs, Injected, Unrouted, Stop, Ended}
use Rattle.cts_monitor.specs.Cells.{CellsTell, begun_cell, sampled_all, turns}
use Rattle.cts_monitor.specs.Events.{events, is_from}
use Rattle.cts_monitor.specs.Watching.{watches}
use Rattle.cts_monitor.specs.declared.cells.Cell.{Cell}
use Rattle.cts_monitor.specs.declared.types.LimitsEvent.{LimitsEvent}

-- what is kept of each item of each packet, the events so far, and how many more there are places for
pub record GridData : Type 0 where
  pub rows : List (List Cell)
  pub events : List LimitsEvent
  pub free : ℕ

abbrev pub cells_at : List (List Cell) → ℕ → List Cell
cells_at rows p = slice_index_or rows p []

-- before the first entry: a row for each packet, and none where no item of the site is watched
abbrev pub begun_grid : SiteData → GridData
begun_grid site = record {
  rows = if watches site then map (λ (packet : PacketData). map begun_cell packet.items) site.definitions.telemetry else [];
  events = [];
  free = 0;
}

-- after bytes of a packet of the site
abbrev pub sampled_packet : ℕ → ℕ → PacketData → List ℕ → GridData → GridData
sampled_packet at p packet bytes k = record {
  rows = slice_set k.rows p (sampled_all packet bytes packet.items (cells_at k.rows p));
  events = k.events ++ turns at p 0 packet bytes packet.items (cells_at k.rows p);
  free = k.free - length packet.items;
}

-- ---- what it stands for

-- a row for each packet, and none where no item of the site is watched
abbrev pub rows_of : SiteData → ℕ
rows_of site = if watches site then length site.definitions.telemetry else 0

-- what is said of each element with its place
abbrev pub Each : {A : Type 0} → (ℕ → A → Type 0) → List A → Type 0
Each P xs = (n : ℕ) → ForSome (slice_get xs n) (P n)

abbrev pub RowTells : SiteData → List Entry → ℕ → List Cell → Type 0
RowTells site h p row = ForSome (slice_get site.definitions.telemetry p) (λ packet. CellsTell packet p 0 h packet.items row)

pub record GridTells (site : SiteData) (h : List Entry) (k : GridData) : Type 0 where
  pub long : length k.rows ≡ rows_of site
  pub rows : Each (RowTells site h) k.rows
  pub told : k.events ≡ events site h

-- ---- look-ups

-- the events at entries from this one on stand after all others
abbrev pub IsPartedAt : ℕ → List LimitsEvent → Type 0
IsPartedAt n events = (front : List LimitsEvent) × (back : List LimitsEvent) × (events ≡ front ++ back) × (filter (is_from n) front ≡ [])
    × (filter (is_from n) back ≡ back)

abbrev pub cell_in : List (List Cell) → ℕ → ℕ → Option Cell
cell_in rows p i = option_and_then (λ (row : List Cell). slice_get row i) (slice_get rows p)

-- ---- what an entry brings of a packet

abbrev pub known_part : Option (Ident × List ℕ) → Option (ℕ × List ℕ)
known_part None = None
known_part (Some (Known p, bytes)) = Some (p, bytes)
known_part (Some (Unknown, bytes)) = None

-- it may change what counts for some item
abbrev pub is_setting : What → Bool
is_setting Opened = false
is_setting (Packet ident stored bytes) = false
is_setting (Closed why loss unposted unsent) = false
is_setting (Command interface command bytes) = false
is_setting (SetLimits enabled packet item persistence set limits) = true
is_setting (Enable packet item enabled) = true
is_setting (LimitsSetIs set) = true
is_setting (Injected packet bytes) = false
is_setting (Unrouted why bytes) = false
is_setting Stop = false
is_setting Ended = false
