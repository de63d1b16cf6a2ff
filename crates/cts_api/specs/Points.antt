-- What the methods look up at one point of the history: the look-ups of the hall over the entries up to there.
use Rattle.std.specs.Prelude.{ℕ, ◌+◌, Bool, ◌&&◌, nat_le, List, Option, Result}
use Rattle.cts_conv.specs.declared.value.Value.{Value}
use Rattle.cts_conv.specs.declared.value.ValueKind.{ValueKind}
use Rattle.cts_def.specs.declared.color.Color.{Color}
use Rattle.cts_def.specs.declared.ident.Ident.{Ident}
use Rattle.cts_def.specs.Sites.{SiteData}
use Rattle.cts_entry.specs.declared.entry.Entry.{Entry}
use Rattle.cts_entry.specs.Histories.{is_connected, is_stopped, entries_in, bytes_in}
use Rattle.cts_table.specs.declared.basis.Basis.{Basis}
use Rattle.cts_table.specs.declared.fault.Lookup.{Lookup}
use Rattle.cts_table.specs.declared.fault.NoRoute.{NoRoute}
use Rattle.cts_table.specs.Lookups.{looked_up, counted, every_length, commands_in}
use Rattle.cts_table.specs.Routes.{route_of}
use Rattle.cts_monitor.specs.Brought.{current_of}
use Rattle.cts_monitor.specs.Events.{events_from}
use Rattle.cts_monitor.specs.Samples.{state_at}
use Rattle.cts_monitor.specs.Sets.{is_set_known, sets_known}
use Rattle.cts_monitor.specs.Settings.{current_set, limits_of}
use Rattle.cts_monitor.specs.declared.types.LimitsEvent.{LimitsEvent}
use Rattle.cts_monitor.specs.declared.types.LimitsUsed.{LimitsUsed}
use Rattle.cts_methods.specs.Asking.{ItemName}

pub record Point : Type 0 where
  pub site : SiteData
  -- the value of an item by its names, or why there is none
  pub value : ItemName → ValueKind → Result Value Lookup
  -- the current bytes of a packet
  pub current : ℕ → Option (List ℕ)
  -- how often packets of an ident came, and a command was sent
  pub received : Ident → ℕ
  pub sent : ℕ → ℕ
  -- the limits state of an item
  pub state_of : ℕ → ℕ → Color
  -- the current limits set, whether one is known, and how many are
  pub set : List ℕ
  pub is_known : List ℕ → Bool
  pub sets : ℕ
  -- the limits of an item in a set, or in DEFAULT where it does not have its own of that set
  pub limits_of : ℕ → ℕ → List ℕ → Option LimitsUsed
  -- the changes of limits states at the entries from one on
  pub events : ℕ → List LimitsEvent
  -- the interface of a command
  pub route : ℕ → Result ℕ NoRoute
  pub connected : ℕ → Bool
  pub stopped : Bool
  -- whether as many more entries and bytes keep the limits of the history
  pub fits : ℕ → ℕ → Bool

-- the point after the entries
abbrev pub point_of : Basis → List Entry → Point
point_of basis history = record {
  site = basis.site;
  value = λ name kind. looked_up basis.site history name.target name.packet name.item kind;
  current = λ packet. current_of packet history;
  received = λ ident. counted ident every_length history;
  sent = λ command. commands_in command history;
  state_of = λ packet item. state_at basis.site packet item history;
  set = current_set history;
  is_known = λ name. is_set_known basis.site history name;
  sets = sets_known basis.site history;
  limits_of = λ packet item set. limits_of basis.site packet item set history;
  events = λ from. events_from basis.site history from;
  route = λ command. route_of basis.site history command;
  connected = λ by. is_connected by history;
  stopped = is_stopped history;
  fits = λ entries bytes. nat_le (entries_in history + entries) basis.entries && nat_le (bytes_in history + bytes) basis.bytes;
}
