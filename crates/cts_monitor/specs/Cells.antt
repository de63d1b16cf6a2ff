-- What is kept of every item as the history grows: its state and the setting that counts, without a search.
use Rattle.std.specs.Prelude.{◌≡◌, ℕ, ◌+◌, ◌<◌, ◌≤◌, ◌-◌, ◌^◌, IsTrue, List, [], ◌∷◌, ◌++◌, length, Option, None, Some}
use Rattle.std.specs.Option.{ForSome}
use Rattle.cts_def.specs.Items.{ItemData, IsSoundItem}
use Rattle.cts_def.specs.Packets.{PacketData, default_set}
use Rattle.cts_def.specs.declared.color.Color.TheVariants.{Stale}
use Rattle.cts_def.specs.declared.limits.Limits.{Limits}
use Rattle.cts_def.specs.declared.limits_setup.LimitsSetup.{LimitsSetup}
use Rattle.cts_def.specs.Spans.{is_number}
use Rattle.cts_entry.specs.declared.entry.Entry.{Entry}
use Rattle.cts_limits.specs.States.{StandsFor, change_from}
use Rattle.cts_monitor.specs.Events.{as_event}
use Rattle.cts_monitor.specs.Samples.{sample_of, samples, setting_of}
use Rattle.cts_monitor.specs.Settings.{Watched, watched, limits_in, first_persistence, first_enabled}
use Rattle.cts_monitor.specs.Steps.{stepped}
use Rattle.cts_monitor.specs.declared.cells.Cell.{Cell}
use Rattle.cts_monitor.specs.declared.types.LimitsEvent.{LimitsEvent}

-- the limits of DEFAULT in an item's definition
abbrev pub first_limits : Option LimitsSetup → Option Limits
first_limits None = None
first_limits (Some setup) = limits_in default_set setup.sets

-- before the first entry
abbrev pub begun_cell : ItemData → Cell
begun_cell item = record {
  state = record { color = Stale; run = 0 };
  setting = record { limits = first_limits item.limits; persistence = first_persistence item.limits; enabled = first_enabled item.limits };
}

-- after bytes of the packet
abbrev pub sampled : PacketData → List ℕ → ItemData → Cell → Cell
sampled packet bytes item c = record c { state = stepped c.state (sample_of (watched packet item 0 0) c.setting bytes) }

abbrev pub sampled_all : PacketData → List ℕ → List ItemData → List Cell → List Cell
sampled_all packet bytes [] cs = []
sampled_all packet bytes (item ∷ items) [] = []
sampled_all packet bytes (item ∷ items) (c ∷ cs) = sampled packet bytes item c ∷ sampled_all packet bytes items cs

-- the events that bytes of the packet make, of the items from the i-th on
abbrev pub turns : ℕ → ℕ → ℕ → PacketData → List ℕ → List ItemData → List Cell → List LimitsEvent
turns at p i packet bytes [] cs = []
turns at p i packet bytes (item ∷ items) [] = []
turns at p i packet bytes (item ∷ items) (c ∷ cs) =
    as_event at p i (change_from c.state.color (sampled packet bytes item c).state.color) ++ turns at p (i + 1) packet bytes items cs

-- it can take one sample more
pub record CanSample (item : ItemData) (c : Cell) : Type 0 where
  pub number : IsSoundItem item → ForSome c.setting.limits (λ _. IsTrue (is_number item.kind))
  pub run : c.state.run < 2 ^ 32 - 1

abbrev pub Fit : List ItemData → List Cell → Type 0
Fit [] [] = Unit {0}
Fit [] (c ∷ cs) = ⊥
Fit (item ∷ items) [] = ⊥
Fit (item ∷ items) (c ∷ cs) = CanSample item c × Fit items cs

-- ---- what it stands for

pub record CellTells (w : Watched) (h : List Entry) (c : Cell) : Type 0 where
  pub setting : c.setting ≡ setting_of w h
  pub state : StandsFor c.state (samples w h)
  pub run : c.state.run ≤ length h

-- of the items of a packet, from the i-th on
abbrev pub CellsTell : PacketData → ℕ → ℕ → List Entry → List ItemData → List Cell → Type 0
CellsTell packet p i h [] [] = Unit {0}
CellsTell packet p i h [] (c ∷ cs) = ⊥
CellsTell packet p i h (item ∷ items) [] = ⊥
CellsTell packet p i h (item ∷ items) (c ∷ cs) = CellTells (watched packet item p i) h c × CellsTell packet p (i + 1) h items cs
