-- The definitions that stand after some lines.
use Rattle.std.specs.Prelude.{ℕ, ℤ, pos, max, Bool, true, false, not, List, [], ◌∷◌, map, Option, Some, None, unwrap_or}
use Rattle.std.specs.List.{filter, filter_map, list_any}
use Rattle.cts_base.specs.declared.decimal.Decimal.{Decimal}
use Rattle.cts_bits.specs.declared.order.Order.{Order}
use Rattle.cts_def.specs.declared.conversion.Conversion.{Conversion}
use Rattle.cts_def.specs.declared.conversion.Conversion.TheVariants.{Plain, Poly, Segments}
use Rattle.cts_def.specs.declared.conversion.Segment.{Segment}
use Rattle.cts_def.specs.declared.item_kind.ItemKind.{ItemKind}
use Rattle.cts_def.specs.declared.item_kind.Overflow.{Overflow}
use Rattle.cts_def.specs.declared.item_kind.Overflow.TheVariants.{Error}
use Rattle.cts_def.specs.declared.item_kind.Preset.{Preset}
use Rattle.cts_def.specs.declared.limits.Limits.{Limits}
use Rattle.cts_def.specs.declared.limits_setup.LimitsSetup.{LimitsSetup}
use Rattle.cts_def.specs.declared.state_def.StateDef.{StateDef}
use Rattle.cts_def.specs.Items.{ItemData, span_of, is_same}
use Rattle.cts_def.specs.Packets.{PacketData, DefinitionsData, default_set, length_of, are_variable}
use Rattle.cts_def.specs.Spans.{end_of}
use Rattle.cts_defstatement.specs.declared.details.Detail.TheVariants as detail
use Rattle.cts_defstatement.specs.declared.details.LimitsLine.{LimitsLine}
use Rattle.cts_defstatement.specs.declared.line.Line.{Line}
use Rattle.cts_defstatement.specs.declared.line.Line.TheVariants as line
use Rattle.cts_defstatement.specs.declared.line.ItemLine.{ItemLine}
use Rattle.cts_defstatement.specs.declared.line.PacketLine.{PacketLine}
use Rattle.cts_defstatement.specs.declared.open.PacketKind.{PacketKind}
use Rattle.cts_defstatement.specs.declared.open.PacketKind.TheVariants.{Telemetry, Command}
use Rattle.cts_defstatement.specs.Lines.{no_value}
use Rattle.cts_defread.specs.declared.drafted.Drafted.{Drafted}
use Rattle.cts_words.specs.Blocks.{blocks, last_of}

-- ---- what a line says of a definition or an item

abbrev pub packet_in : Line → Option PacketLine
packet_in (line.Packet head) = Some head
packet_in _ = None

abbrev pub item_in : Line → Option ItemLine
item_in (line.Item head) = Some head
item_in _ = None

abbrev pub state_in : Line → Option StateDef
state_in (line.Detail (detail.State s)) = Some s
state_in _ = None

abbrev pub limits_in : Line → Option LimitsLine
limits_in (line.Detail (detail.Limits l)) = Some l
limits_in _ = None

abbrev pub poly_in : Line → Option (List Decimal)
poly_in (line.Detail (detail.Poly coefficients)) = Some coefficients
poly_in _ = None

abbrev pub segment_in : Line → Option Segment
segment_in (line.Detail (detail.Segment s)) = Some s
segment_in _ = None

abbrev pub units_in : Line → Option (List ℕ × List ℕ)
units_in (line.Detail (detail.Units full short)) = Some (full, short)
units_in _ = None

abbrev pub format_in : Line → Option (List ℕ)
format_in (line.Detail (detail.Format text)) = Some text
format_in _ = None

abbrev pub overflow_in : Line → Option Overflow
overflow_in (line.Detail (detail.Overflow o)) = Some o
overflow_in _ = None

abbrev pub is_required : Line → Bool
is_required (line.Detail detail.Required) = true
is_required _ = false

abbrev pub is_hazardous : Line → Bool
is_hazardous line.Hazardous = true
is_hazardous _ = false

-- ---- an item by its head and the lines that belong to it

-- the last polynomial counts, and else the segments in their order
abbrev pub conversion_from : Option (List Decimal) → List Segment → Conversion
conversion_from (Some coefficients) segments = Poly coefficients
conversion_from None [] = Plain
conversion_from None (s ∷ segments) = Segments (s ∷ segments)

abbrev pub conversion_of : List Line → Conversion
conversion_of body = conversion_from (last_of (filter_map poly_in body)) (filter_map segment_in body)

abbrev pub set_limits : LimitsLine → List ℕ × Limits
set_limits l = (l.set, l.limits)

-- limits in the order of their lines; persistence and enabling are those of the first
abbrev pub limits_from : List LimitsLine → Option LimitsSetup
limits_from [] = None
limits_from (first ∷ others) =
    Some (record { sets = map set_limits (first ∷ others); persistence = first.persistence; enabled = first.enabled })

-- an item begins at its own offset, or at the end of those before it
abbrev pub offset_or : ℕ → Option ℤ → ℤ
offset_or end None = pos end
offset_or end (Some offset) = offset

abbrev pub preset_or : ItemKind → Option Preset → Preset
preset_or kind None = no_value kind
preset_or kind (Some preset) = preset

-- The item of a definition with this order of bytes, after items that end at bit `end`.
abbrev pub item_at : Order → ℕ → ItemLine → List Line → ItemData
item_at order end head body = record {
  name = head.name;
  kind = head.kind;
  offset = offset_or end head.offset;
  size = head.size;
  order = unwrap_or head.order order;
  id = head.id;
  range = head.range;
  preset = preset_or head.kind head.preset;
  states = filter_map state_in body;
  conversion = conversion_of body;
  limits = limits_from (filter_map limits_in body);
  units = last_of (filter_map units_in body);
  format = last_of (filter_map format_in body);
  required = list_any is_required body;
  overflow = unwrap_or (last_of (filter_map overflow_in body)) Error;
}

-- ---- definitions

-- the greatest end of the items, from one that is reached already
abbrev pub end_from : ℕ → List ItemData → ℕ
end_from end [] = end
end_from end (i ∷ items) = end_from (max end (end_of (span_of i))) items

-- each item with its lines; one that is appended begins at the greatest end of those before it
abbrev pub items_from : Order → ℕ → List (ItemLine × List Line) → List ItemData
items_from order end [] = []
items_from order end (block ∷ others) =
    let item = item_at order end block.0 block.1 in
    item ∷ items_from order (max end (end_of (span_of item))) others

abbrev pub items_of : PacketLine × List Line → List ItemData
items_of block = items_from block.0.order 0 (blocks item_in block.1)

-- a definition by its head and the lines that belong to it
abbrev pub packet_of : PacketLine × List Line → Drafted
packet_of block = record {
  kind = block.0.kind;
  order = block.0.order;
  packet = record {
    target = block.0.target;
    name = block.0.name;
    items = items_of block;
    length = length_of (items_of block);
    variable = are_variable (items_of block);
    hazardous = list_any is_hazardous block.1;
  };
}

-- One definition for each line that says so, in their order.
abbrev pub standing : List Line → List Drafted
standing lines = map packet_of (blocks packet_in lines)

-- ---- limits sets

abbrev pub set_in : Line → Option (List ℕ)
set_in (line.Detail (detail.Limits l)) = Some l.set
set_in _ = None

abbrev pub is_other : List ℕ → List ℕ → Bool
is_other x y = not (is_same x y)

-- each text where it first stands
abbrev pub firsts : List (List ℕ) → List (List ℕ)
firsts [] = []
firsts (x ∷ xs) = x ∷ filter (is_other x) (firsts xs)

-- the limits sets: DEFAULT, and then the others in the order in which lines first name them
abbrev pub set_names_of : List Line → List (List ℕ)
set_names_of lines = firsts (default_set ∷ filter_map set_in lines)

-- ---- all of it

abbrev pub is_telemetry : PacketKind → Bool
is_telemetry Telemetry = true
is_telemetry Command = false

-- both are telemetry, or both commands
abbrev pub are_same_kind : PacketKind → PacketKind → Bool
are_same_kind Telemetry k = is_telemetry k
are_same_kind Command k = not (is_telemetry k)

-- the packets or the commands
abbrev pub packets_of : PacketKind → List Drafted → List PacketData
packets_of kind packets = map (λ (d : Drafted). d.packet) (filter (λ (d : Drafted). are_same_kind kind d.kind) packets)

-- the definitions of the packets, commands and limits sets
abbrev pub definitions_in : List Drafted → List (List ℕ) → DefinitionsData
definitions_in packets sets = record {
  telemetry = packets_of Telemetry packets;
  commands = packets_of Command packets;
  set_names = sets;
}

abbrev pub definitions_at : List Line → DefinitionsData
definitions_at lines = definitions_in (standing lines) (set_names_of lines)
