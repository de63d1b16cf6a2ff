-- What a statement says, read from its words. Of words that are not what their fields ask for the reading says nothing
-- that is used.
use Rattle.std.specs.Prelude.{ℕ, ℤ, pos, ◌+◌, Bool, true, false, List, [], ◌∷◌, map, drop, length, codes, Option, Some, None, option_map, unwrap_or}
use Rattle.std.specs.Prelude.{nat_le, IsTrue, if◌then◌else◌}
use Rattle.std.specs.List.{slice_get}
use Rattle.cts_base.specs.Names.{in_upper_case, is_name}
use Rattle.cts_base.specs.declared.decimal.Decimal.{Decimal}
use Rattle.cts_bits.specs.declared.order.Order.{Order}
use Rattle.cts_bits.specs.declared.order.Order.TheVariants.{Big}
use Rattle.cts_def.specs.declared.color.Color.{Color}
use Rattle.cts_def.specs.declared.color.Color.TheVariants.{StateRed, StateYellow, StateGreen}
use Rattle.cts_def.specs.declared.conversion.Segment.{Segment}
use Rattle.cts_def.specs.declared.item_kind.ItemKind.{ItemKind}
use Rattle.cts_def.specs.declared.item_kind.ItemKind.TheVariants.{Uint}
use Rattle.cts_def.specs.declared.item_kind.Preset.{Preset}
use Rattle.cts_def.specs.declared.item_kind.Preset.TheVariants.{Whole, Raw}
use Rattle.cts_def.specs.declared.item_kind.Overflow.{Overflow}
use Rattle.cts_def.specs.declared.item_kind.Overflow.TheVariants as overflow
use Rattle.cts_def.specs.declared.state_def.StateDef.{StateDef}
use Rattle.cts_def.specs.Items.{is_same}
use Rattle.cts_def.specs.Spans.{is_number}
use Rattle.cts_defstatement.specs.declared.keyword.Keyword.{Keyword}
use Rattle.cts_defstatement.specs.declared.keyword.Keyword.TheVariants as keyword
use Rattle.cts_defstatement.specs.declared.line.Line.{Line}
use Rattle.cts_defstatement.specs.declared.line.Line.TheVariants as line
use Rattle.cts_defstatement.specs.declared.line.ItemLine.{ItemLine}
use Rattle.cts_defstatement.specs.declared.line.PacketLine.{PacketLine}
use Rattle.cts_defstatement.specs.declared.details.Detail.TheVariants as detail
use Rattle.cts_defstatement.specs.declared.details.LimitsLine.{LimitsLine}
use Rattle.cts_defstatement.specs.declared.open.PacketKind.{PacketKind}
use Rattle.cts_defstatement.specs.declared.open.PacketKind.TheVariants as «kind»
use Rattle.cts_defstatement.specs.Forms.{size_at, keyword_of}
use Rattle.cts_reader.specs.Words.{word_at}
use Rattle.cts_def.specs.Characters.{text_bytes}
use Rattle.cts_defstatement.specs.Numbers.{whole, decimal, bound, persistence, order_of, kind_of}

-- ---- definitions and items

abbrev pub packet_line : PacketKind → List (List ℕ) → PacketLine
packet_line k words = record {
  kind = k;
  target = in_upper_case (word_at words 0);
  name = in_upper_case (word_at words 1);
  order = unwrap_or (order_of (word_at words 2)) Big;
}

-- the size, and the type after it
abbrev pub size_in : Bool → List (List ℕ) → ℤ
size_in append words = whole (word_at words (size_at append))

abbrev pub kind_in : Bool → List (List ℕ) → ItemKind
kind_in append words = unwrap_or (kind_of (word_at words (size_at append + 1))) Uint

abbrev pub offset_in : Bool → List (List ℕ) → Option ℤ
offset_in append words = if append then None else Some (whole (word_at words 1))

-- the order of the bytes, where its word is there
abbrev pub or_big : Option (List ℕ) → Option Order
or_big None = None
or_big (Some word) = Some (unwrap_or (order_of word) Big)

-- the order of the bytes, of which the word stands at this place, after a description
abbrev pub order_at : ℕ → List (List ℕ) → Option Order
order_at at words = or_big (slice_get words at)

-- what an item, or a parameter without a default, holds
abbrev pub no_value : ItemKind → Preset
no_value kind = if is_number kind then Whole (pos 0) else Raw []

-- the number in a bound's word
abbrev pub bound_in : Bool → List (List ℕ) → ℕ → ℤ
bound_in append words at = bound (kind_in append words) (size_in append words) (word_at words at)

abbrev pub telemetry_item : Bool → Bool → List (List ℕ) → ItemLine
telemetry_item append id words =
    let values = size_at append + 2 in
    record {
      name = in_upper_case (word_at words 0);
      offset = offset_in append words;
      size = size_in append words;
      kind = kind_in append words;
      order = order_at (if id then values + 2 else values + 1) words;
      id = if id then Some (bound_in append words values) else None;
      range = None;
      preset = Some (no_value (kind_in append words));
    }

-- a parameter that is a number, or an id: its bounds, and its default or id
abbrev pub number_parameter : Bool → Bool → List (List ℕ) → ItemLine
number_parameter append id words =
    let values = size_at append + 2 in
    record {
      name = in_upper_case (word_at words 0);
      offset = offset_in append words;
      size = size_in append words;
      kind = kind_in append words;
      order = order_at (values + 4) words;
      id = if id then Some (bound_in append words (values + 2)) else None;
      range = Some (bound_in append words values, bound_in append words (values + 1));
      preset = Some (Whole (bound_in append words (values + 2)));
    }

-- a parameter that is a text or block: its default
abbrev pub text_parameter : Bool → List (List ℕ) → ItemLine
text_parameter append words =
    let values = size_at append + 2 in
    record {
      name = in_upper_case (word_at words 0);
      offset = offset_in append words;
      size = size_in append words;
      kind = kind_in append words;
      order = order_at (values + 2) words;
      id = None;
      range = None;
      preset = option_map Raw (text_bytes (kind_in append words) (word_at words values));
    }

abbrev pub parameter : Bool → Bool → List (List ℕ) → ItemLine
parameter append true words = number_parameter append true words
parameter append false words =
    if is_number (kind_in append words) then number_parameter append false words else text_parameter append words

-- ---- details

abbrev pub color_of : List ℕ → Option Color
color_of word =
    if is_same word (codes "GREEN") then Some StateGreen
    else if is_same word (codes "YELLOW") then Some StateYellow
    else if is_same word (codes "RED") then Some StateRed
    else None

abbrev pub overflow_of : List ℕ → Overflow
overflow_of word =
    if is_same word (codes "TRUNCATE") then overflow.Truncate
    else if is_same word (codes "SATURATE") then overflow.Saturate
    else overflow.Error

abbrev pub state_def : List (List ℕ) → StateDef
state_def words = record {
  name = in_upper_case (word_at words 0);
  value = whole (word_at words 1);
  color = color_of (word_at words 2);
  hazardous = is_same (word_at words 2) (codes "HAZARDOUS");
}

abbrev pub segment : List (List ℕ) → Segment
segment words = record { bound = decimal (word_at words 0); coefficients = map decimal (drop 1 words) }

-- the pair of green limits, if there is one
abbrev pub green_in : List (List ℕ) → Option (Decimal × Decimal)
green_in words = if nat_le 9 (length words) then Some (decimal (word_at words 7), decimal (word_at words 8)) else None

abbrev pub limits_line : List (List ℕ) → LimitsLine
limits_line words = record {
  set = in_upper_case (word_at words 0);
  persistence = persistence (word_at words 1);
  enabled = is_same (word_at words 2) (codes "ENABLED");
  limits = record {
    red_low = decimal (word_at words 3);
    yellow_low = decimal (word_at words 4);
    yellow_high = decimal (word_at words 5);
    red_high = decimal (word_at words 6);
    green = green_in words;
  };
}

-- ---- names

-- the words that have to be names are names
abbrev pub AreNames : Keyword → List (List ℕ) → Type 0
AreNames keyword.Command words = IsTrue (is_name (word_at words 0)) × IsTrue (is_name (word_at words 1))
AreNames keyword.Telemetry words = IsTrue (is_name (word_at words 0)) × IsTrue (is_name (word_at words 1))
AreNames (keyword.Item append id) words = IsTrue (is_name (word_at words 0))
AreNames (keyword.Parameter append id) words = IsTrue (is_name (word_at words 0))
AreNames keyword.Limits words = IsTrue (is_name (word_at words 0))
AreNames _ words = Unit {0}

-- ---- the line

abbrev pub line_of : Keyword → List (List ℕ) → Line
line_of keyword.Command words = line.Packet (packet_line «kind».Command words)
line_of keyword.Telemetry words = line.Packet (packet_line «kind».Telemetry words)
line_of (keyword.Item append id) words = line.Item (telemetry_item append id words)
line_of (keyword.Parameter append id) words = line.Item (parameter append id words)
line_of keyword.State words = line.Detail (detail.State (state_def words))
line_of keyword.Limits words = line.Detail (detail.Limits (limits_line words))
line_of keyword.Poly words = line.Detail (detail.Poly (map decimal words))
line_of keyword.Segment words = line.Detail (detail.Segment (segment words))
line_of keyword.Units words = line.Detail (detail.Units (word_at words 0) (word_at words 1))
line_of keyword.Format words = line.Detail (detail.Format (word_at words 0))
line_of keyword.Overflow words = line.Detail (detail.Overflow (overflow_of (word_at words 0)))
line_of keyword.Required words = line.Detail detail.Required
line_of keyword.Hazardous words = line.Hazardous
line_of keyword.Meta words = line.NoEffect
line_of keyword.AllowShort words = line.NoEffect

-- what the words of a statement say, where the first is a keyword
abbrev pub line_in : List (List ℕ) → Option Line
line_in [] = None
line_in (word ∷ words) = option_map (λ (k : Keyword). line_of k words) (keyword_of word)
