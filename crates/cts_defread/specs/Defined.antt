-- What answered definitions say, of the lines from which they were read.
use Rattle.std.specs.Prelude.{◌≡◌, ℕ, List, [], ◌∷◌, ◌++◌, map, Option, Some, None, Ok, is_some, unwrap_or, IsTrue, if◌then◌else◌}
use Rattle.std.specs.List.{filter_map, list_any}
use Rattle.cts_bits.specs.declared.order.Order.{Order}
use Rattle.cts_def.specs.declared.item_kind.Overflow.TheVariants.{Error}
use Rattle.cts_def.specs.Items.{ItemData}
use Rattle.cts_def.specs.Packets.{PacketData, DefinitionsData, default_set}
use Rattle.cts_defstatement.specs.declared.line.ItemLine.{ItemLine}
use Rattle.cts_defstatement.specs.declared.line.Line.{Line}
use Rattle.cts_defstatement.specs.declared.line.Line.TheVariants as line
use Rattle.cts_defstatement.specs.declared.line.PacketLine.{PacketLine}
use Rattle.cts_defstatement.specs.declared.open.PacketKind.{PacketKind}
use Rattle.cts_defstatement.specs.declared.open.PacketKind.TheVariants.{Telemetry, Command}
use Rattle.cts_defread.specs.Definitions.{definitions_of, lines_of}
use Rattle.cts_defread.specs.Laws.{end_after}
use Rattle.cts_defread.specs.Standing.{are_same_kind, conversion_of, firsts, format_in, is_hazardous, is_required, item_in, limits_from, limits_in}
use Rattle.cts_defread.specs.Standing.{offset_or, overflow_in, packet_in, preset_or, set_in, state_in, units_in}
use Rattle.cts_words.specs.Blocks.{HasNoHead, last_of}
use Rattle.cts_words.specs.declared.statement.Statement.{Statement}

-- ---- the lines after a head, up to the next one

abbrev pub BeginsAtHead : {L H : Type 0} → (L → Option H) → List L → Type 0
BeginsAtHead head_in [] = Unit {0}
BeginsAtHead head_in (l ∷ ls) = IsTrue (is_some (head_in l))

-- The lines stand after the head among all lines, and after them the next head or nothing.
pub record IsBlock {L H : Type 0} (head_in : L → Option H) (all : List L) (head : H) (body : List L) : Type 0 where
  pub before : List L
  pub opening : L
  pub after : List L
  pub lines : all ≡ before ++ opening ∷ (body ++ after)
  pub opens : head_in opening ≡ Some head
  pub own : HasNoHead head_in body
  pub next : BeginsAtHead head_in after

-- ---- items

-- The item has from its own line its name, type, place, id, range and default, and each of the rest from the lines after
-- that one: all states and limits and the segments in their order, and of what may be said again the last.
pub record IsItemOf (order_of_packet : Order) (before : List ItemData) (l : ItemLine) (details : List Line) (i : ItemData) : Type 0 where
  pub name : i.name ≡ l.name
  pub kind : i.kind ≡ l.kind
  pub offset : i.offset ≡ offset_or (end_after before) l.offset
  pub size : i.size ≡ l.size
  pub order : i.order ≡ unwrap_or l.order order_of_packet
  pub id : i.id ≡ l.id
  pub range : i.range ≡ l.range
  pub preset : i.preset ≡ preset_or l.kind l.preset
  pub states : i.states ≡ filter_map state_in details
  pub conversion : i.conversion ≡ conversion_of details
  pub limits : i.limits ≡ limits_from (filter_map limits_in details)
  pub units : i.units ≡ last_of (filter_map units_in details)
  pub format : i.format ≡ last_of (filter_map format_in details)
  pub required : i.required ≡ list_any is_required details
  pub overflow : i.overflow ≡ unwrap_or (last_of (filter_map overflow_in details)) Error

-- the line of an item, with the lines that belong to it
pub record HasItemLine (order_of_packet : Order) (body : List Line) (before : List ItemData) (i : ItemData) : Type 0 where
  pub head : ItemLine
  pub details : List Line
  pub block : IsBlock item_in body head details
  pub item : IsItemOf order_of_packet before head details i

-- ---- packets and commands

-- the line of a packet or command, with the lines that belong to it
pub record HasPacketLine (kind : PacketKind) (lines : List Line) (p : PacketData) : Type 0 where
  pub head : PacketLine
  pub body : List Line
  pub block : IsBlock packet_in lines head body
  pub own_kind : head.kind ≡ kind
  pub target : p.target ≡ head.target
  pub name : p.name ≡ head.name
  pub hazardous : p.hazardous ≡ list_any is_hazardous body
  pub item_names : map (λ (i : ItemData). i.name) p.items ≡ map (λ (l : ItemLine). l.name) (filter_map item_in body)
  pub items : (before after : List ItemData) (i : ItemData) → p.items ≡ before ++ i ∷ after → HasItemLine head.order body before i

abbrev pub names_of_packet : PacketData → List ℕ × List ℕ
names_of_packet p = (p.target, p.name)

abbrev pub names_of_head : PacketKind → PacketLine → Option (List ℕ × List ℕ)
names_of_head kind head = if are_same_kind kind head.kind then Some (head.target, head.name) else None

-- the names that a line gives to a packet, or to a command
abbrev pub names_said : PacketKind → Line → Option (List ℕ × List ℕ)
names_said kind (line.Packet head) = names_of_head kind head
names_said kind _ = None

-- ---- all of it

-- One packet or command for each line that says so, in their order, each with what its own lines say, and the limits sets
-- that are named, after DEFAULT.
pub record IsDefinedBy (lines : List Line) (d : DefinitionsData) : Type 0 where
  pub telemetry_names : map names_of_packet d.telemetry ≡ filter_map (names_said Telemetry) lines
  pub command_names : map names_of_packet d.commands ≡ filter_map (names_said Command) lines
  pub telemetry : (before after : List PacketData) (p : PacketData) → d.telemetry ≡ before ++ p ∷ after → HasPacketLine Telemetry lines p
  pub commands : (before after : List PacketData) (p : PacketData) → d.commands ≡ before ++ p ∷ after → HasPacketLine Command lines p
  pub sets : d.set_names ≡ firsts (default_set ∷ filter_map set_in lines)

abbrev pub DefinitionsAreOfTheirLines : Type 0
DefinitionsAreOfTheirLines = (all : List Statement) (d : DefinitionsData) → definitions_of all ≡ Ok d → IsDefinedBy (lines_of all) d
