-- What the draft keeps beside the definitions, so that nothing is searched for.
use Rattle.std.specs.Prelude.{◌≡◌, ℕ, ◌≤◌, Bool, true, List, [], ◌∷◌, map, length, Option, Some, None}
use Rattle.std.specs.Cmp.Lexicographic.{slice_cmp}
use Rattle.std.specs.List.{list_any}
use Rattle.std.specs.Ordering.{nat_cmp}
use Rattle.cts_base.specs.Known.{Knows, pair_cmp}
use Rattle.cts_bits.specs.Places.{last_place}
use Rattle.cts_def.specs.declared.state_def.StateDef.{StateDef}
use Rattle.cts_def.specs.Items.{ItemData, is_to_the_end}
use Rattle.cts_def.specs.Most.{most_items_in_all, most_packets}
use Rattle.cts_def.specs.Packets.{PacketData}
use Rattle.cts_defstatement.specs.declared.details.Detail.{Detail}
use Rattle.cts_defstatement.specs.declared.details.Detail.TheVariants as detail
use Rattle.cts_defstatement.specs.declared.open.PacketKind.{PacketKind}
use Rattle.cts_defstatement.specs.declared.open.PacketKind.TheVariants.{Telemetry, Command}
use Rattle.cts_defread.specs.declared.draft.Draft.{Draft}
use Rattle.cts_defread.specs.declared.drafted.Drafted.{Drafted}
use Rattle.cts_defread.specs.Causes.{open_items, open_item, open_end, is_open_ended, count_items}
use Rattle.cts_defread.specs.Sound.{AreSound}
use Rattle.cts_defread.specs.Definitions.{lines_of}
use Rattle.cts_defread.specs.Standing.{packets_of, set_names_of, standing}
use Rattle.cts_words.specs.declared.statement.Statement.{Statement}

-- the target and the name of each packet, or of each command
abbrev pub names_of : PacketKind → List Drafted → List (List ℕ × List ℕ)
names_of kind packets = map (λ (p : PacketData). (p.target, p.name)) (packets_of kind packets)

abbrev pub item_names : List ItemData → List (List ℕ)
item_names items = map (λ (i : ItemData). i.name) items

abbrev pub state_names : Option ItemData → List (List ℕ)
state_names None = []
state_names (Some i) = map (λ (s : StateDef). s.name) i.states

-- ---- what a detail names

abbrev pub state_name : Detail → Option (List ℕ)
state_name (detail.State s) = Some s.name
state_name _ = None

-- the name, if it was taken
abbrev pub taken_name : Bool → Option (List ℕ) → List (List ℕ)
taken_name true (Some name) = name ∷ []
taken_name _ _ = []

-- ---- all that is kept

-- What is kept is what would be found.
pub record IsKept (d : Draft) : Type 0 where
  pub telemetry : Knows pair_cmp d.telemetry (names_of Telemetry d.packets.items)
  pub commands : Knows pair_cmp d.commands (names_of Command d.packets.items)
  pub items : Knows (slice_cmp nat_cmp) d.items (item_names (open_items d.packets.items))
  pub states : Knows (slice_cmp nat_cmp) d.states (state_names (open_item d.packets.items))
  pub sets : Knows (slice_cmp nat_cmp) d.sets d.set_names.items
  pub telemetry_count : d.telemetry_count ≡ length (packets_of Telemetry d.packets.items)
  pub command_count : d.command_count ≡ length (packets_of Command d.packets.items)
  pub item_count : d.item_count ≡ count_items d.packets.items
  pub ends : d.end ≡ open_end d.packets.items
  pub ended : d.is_open_ended ≡ list_any is_open_ended (open_items d.packets.items)
  pub filled : d.is_to_the_end ≡ list_any is_to_the_end (open_items d.packets.items)
  pub few_telemetry : d.telemetry_count ≤ most_packets
  pub few_commands : d.command_count ≤ most_packets
  pub few_items : d.item_count ≤ most_items_in_all
  pub room : d.end ≤ last_place
  pub sound : AreSound d.packets.items d.set_names.items

-- The draft stands for the statements.
pub record Stands (draft : Draft) (before : List Statement) : Type 0 where
  pub packets : draft.packets.items ≡ standing (lines_of before)
  pub sets : draft.set_names.items ≡ set_names_of (lines_of before)
  pub kept : IsKept draft
