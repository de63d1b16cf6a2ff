-- Each cause that lies in what stands: judged by the definitions and limits sets before a statement, and by its line.
use Rattle.std.specs.Prelude.{ℕ, ℤ, pos, ◌+◌, Bool, true, false, not, ◌||◌, ◌&&◌, nat_le, int_lt, int_le, unsigned_abs, List, [], ◌∷◌, length, codes}
use Rattle.std.specs.Prelude.{Option, Some, None, is_some, is_none, unwrap_or}
use Rattle.std.specs.Int.{is_negative}
use Rattle.std.specs.Ordering.{int_eq}
use Rattle.std.specs.List.{find, list_any}
use Rattle.cts_base.specs.declared.decimal.Decimal.{Decimal}
use Rattle.cts_bits.specs.declared.order.Order.{Order}
use Rattle.cts_bits.specs.declared.order.Order.TheVariants.{Big}
use Rattle.cts_bits.specs.Places.{is_whole}
use Rattle.cts_def.specs.declared.conversion.Conversion.{Conversion}
use Rattle.cts_def.specs.declared.conversion.Conversion.TheVariants.{Poly, Segments}
use Rattle.cts_def.specs.declared.conversion.Segment.{Segment}
use Rattle.cts_def.specs.declared.item_kind.ItemKind.{ItemKind}
use Rattle.cts_def.specs.declared.item_kind.Preset.{Preset}
use Rattle.cts_def.specs.declared.item_kind.Preset.TheVariants.{Whole, Raw}
use Rattle.cts_def.specs.declared.limits.Limits.{Limits}
use Rattle.cts_def.specs.declared.span.Span.{Span}
use Rattle.cts_def.specs.declared.state_def.StateDef.{StateDef}
use Rattle.cts_def.specs.Readings.{is_format}
use Rattle.cts_def.specs.Items.{ItemData, is_same, has_room, has_color, is_too_large, is_to_the_end, are_in_order, sets_in}
use Rattle.cts_def.specs.Most.{most_items, most_items_in_all, most_packets, most_segments, most_sets, most_states}
use Rattle.cts_def.specs.Packets.{received_count, unknown}
use Rattle.cts_def.specs.Spans.{is_number, is_little, is_spelled, is_too_far, is_refused_number, is_bad_from_end, is_split_text, is_text_past_end, ends_too_far}
use Rattle.cts_defstatement.specs.declared.cause.DefCause.{DefCause}
use Rattle.cts_defstatement.specs.declared.cause.DefCause.TheVariants.{WrongKind, IdNotWhole, DoubleName, AppendLittleBits, BadPlace, IdOutOfRange}
use Rattle.cts_defstatement.specs.declared.cause.DefCause.TheVariants.{DefaultOutOfRange, ConversionTooLarge, LimitsOrder, BadFormat, TooMany}
use Rattle.cts_defstatement.specs.declared.details.Detail.TheVariants as detail
use Rattle.cts_defstatement.specs.declared.line.Line.{Line}
use Rattle.cts_defstatement.specs.declared.line.Line.TheVariants as line
use Rattle.cts_defstatement.specs.declared.line.ItemLine.{ItemLine}
use Rattle.cts_defstatement.specs.declared.open.Open.{Open}
use Rattle.cts_defstatement.specs.declared.open.Open.TheVariants as open_
use Rattle.cts_defstatement.specs.declared.open.PacketKind.{PacketKind}
use Rattle.cts_defstatement.specs.declared.open.PacketKind.TheVariants.{Command}
use Rattle.cts_defstatement.specs.Numbers.{is_size}
use Rattle.cts_defread.specs.declared.drafted.Drafted.{Drafted}
use Rattle.cts_defread.specs.Standing.{end_from, offset_or, are_same_kind, packets_of}
use Rattle.cts_words.specs.Blocks.{last_of}

-- ---- what is open: the last definition, its items, and the last of them

abbrev pub drafted_items : Option Drafted → List ItemData
drafted_items None = []
drafted_items (Some d) = d.packet.items

abbrev pub open_items : List Drafted → List ItemData
open_items packets = drafted_items (last_of packets)

abbrev pub open_item : List Drafted → Option ItemData
open_item packets = last_of (open_items packets)

abbrev pub opened_with : PacketKind → List ItemData → Open
opened_with kind [] = open_.Packet kind
opened_with kind (i ∷ items) = open_.Item kind

abbrev pub opened_in : Option Drafted → Open
opened_in None = open_.Nothing
opened_in (Some d) = opened_with d.kind d.packet.items

abbrev pub opened : List Drafted → Open
opened packets = opened_in (last_of packets)

abbrev pub is_command_in : Option Drafted → Bool
is_command_in None = false
is_command_in (Some d) = are_same_kind Command d.kind

-- where the next appended item begins
abbrev pub open_end : List Drafted → ℕ
open_end packets = end_from 0 (open_items packets)

-- an open item passes the test
abbrev pub passes : (ItemData → Bool) → Option ItemData → Bool
passes test None = false
passes test (Some i) = test i

-- ---- kinds of items

abbrev pub is_text : ItemData → Bool
is_text i = not (is_number i.kind)

abbrev pub has_limits : ItemData → Bool
has_limits i = is_some i.limits

abbrev pub has_state_colors : ItemData → Bool
has_state_colors i = list_any has_color i.states

abbrev pub is_poly : Conversion → Bool
is_poly (Poly coefficients) = true
is_poly _ = false

abbrev pub is_segmented : Conversion → Bool
is_segmented (Segments segments) = true
is_segmented _ = false

-- States, limits and conversions are of numbers. Limits and state colours exclude each other, and so do the two
-- conversions.
abbrev pub is_wrong_kind : Option ItemData → Line → Bool
is_wrong_kind item (line.Detail (detail.State s)) = passes (λ i. is_text i || (has_color s && has_limits i)) item
is_wrong_kind item (line.Detail (detail.Limits l)) = passes (λ i. is_text i || has_state_colors i) item
is_wrong_kind item (line.Detail (detail.Poly coefficients)) = passes (λ i. is_text i || is_segmented i.conversion) item
is_wrong_kind item (line.Detail (detail.Segment s)) = passes (λ i. is_text i || is_poly i.conversion) item
is_wrong_kind item _ = false

abbrev pub is_text_id : Line → Bool
is_text_id (line.Item head) = is_some head.id && not (is_number head.kind)
is_text_id _ = false

-- ---- names

abbrev pub has_names : PacketKind → List ℕ → List ℕ → Drafted → Bool
has_names kind target name d = are_same_kind kind d.kind && (is_same target d.packet.target && is_same name d.packet.name)

abbrev pub has_item : List ItemData → List ℕ → Bool
has_item items name = list_any (λ (i : ItemData). is_same name i.name) items

abbrev pub has_state : List ℕ → ItemData → Bool
has_state name i = list_any (λ (s : StateDef). is_same name s.name) i.states

abbrev pub has_set : List ℕ → ItemData → Bool
has_set name i = list_any (λ (s : List ℕ × Limits). is_same name s.0) (sets_in i.limits)

abbrev pub segments_in : Conversion → List Segment
segments_in (Segments segments) = segments
segments_in _ = []

abbrev pub has_bound : Decimal → ItemData → Bool
has_bound bound i = list_any (λ (s : Segment). int_eq bound.parts s.bound.parts) (segments_in i.conversion)

-- what stands already, or no definition may name
abbrev pub is_double : List Drafted → Line → Bool
is_double packets (line.Packet head) =
    is_same head.target unknown || list_any (has_names head.kind head.target head.name) packets
is_double packets (line.Item head) = is_same head.name received_count || has_item (open_items packets) head.name
is_double packets (line.Detail (detail.State s)) = passes (has_state s.name) (open_item packets)
is_double packets (line.Detail (detail.Limits l)) = passes (has_set l.set) (open_item packets)
is_double packets (line.Detail (detail.Segment s)) = passes (has_bound s.bound) (open_item packets)
is_double packets _ = false

-- ---- places

abbrev pub order_in : Option Drafted → Option Order → Order
order_in None own = unwrap_or own Big
order_in (Some d) own = unwrap_or own d.order

-- where an item would lie in the open definition
abbrev pub span_in : List Drafted → ItemLine → Span
span_in packets head = record {
  kind = head.kind;
  order = order_in (last_of packets) head.order;
  offset = offset_or (open_end packets) head.offset;
  size = head.size;
}

-- an appended number in little-endian order that is not whole bytes of a machine's number
abbrev pub is_little_append : List Drafted → Line → Bool
is_little_append packets (line.Item head) =
    is_none head.offset && is_number head.kind && is_little (order_in (last_of packets) head.order)
    && not (int_lt (pos 0) head.size && is_whole (open_end packets) (unsigned_abs head.size))
is_little_append packets _ = false

-- the item has no length of its own: it goes to the packet's end, or up to some bits before it
abbrev pub is_open_ended : ItemData → Bool
is_open_ended i = int_le i.size (pos 0)

-- ---- the places that no item may have, each by the definitions before the line and by the line

-- a test of the place alone
abbrev pub of_place : (Span → Bool) → List Drafted → ItemLine → Bool
of_place test packets head = test (span_in packets head)

-- an append stands after an item of size at most 0
abbrev pub is_after_open_end : List Drafted → ItemLine → Bool
is_after_open_end packets head = is_none head.offset && list_any is_open_ended (open_items packets)

-- an id item has a negative offset
abbrev pub is_id_from_end : List Drafted → ItemLine → Bool
is_id_from_end packets head = is_some head.id && is_negative (span_in packets head).offset

-- in a command, an offset or size is negative
abbrev pub is_from_end_in_command : List Drafted → ItemLine → Bool
is_from_end_in_command packets head =
    is_command_in (last_of packets) && (is_negative (span_in packets head).offset || is_negative head.size)

-- in a command, an item stands after one of size 0
abbrev pub is_after_rest_in_command : List Drafted → ItemLine → Bool
is_after_rest_in_command packets head = is_command_in (last_of packets) && list_any is_to_the_end (open_items packets)

-- all ten: six of the place alone, and four by what stands
abbrev pub bad_places : List (List Drafted → ItemLine → Bool)
bad_places =
    of_place is_too_far ∷ of_place is_refused_number ∷ of_place is_bad_from_end ∷ of_place is_split_text
    ∷ of_place is_text_past_end ∷ of_place ends_too_far
    ∷ is_after_open_end ∷ is_id_from_end ∷ is_from_end_in_command ∷ is_after_rest_in_command ∷ []

abbrev pub is_bad_place : List Drafted → Line → Bool
is_bad_place packets (line.Item head) = list_any (λ (bad : List Drafted → ItemLine → Bool). bad packets head) bad_places
is_bad_place packets _ = false

-- ---- values

-- the number has a spelling in a field of this kind and size
abbrev pub fits : ItemKind → ℤ → ℤ → Bool
fits kind size z = is_number kind && is_size size && is_spelled kind (unsigned_abs size) z

abbrev pub is_unfit_id : ItemLine → Option ℤ → Bool
is_unfit_id head None = false
is_unfit_id head (Some z) = not (fits head.kind head.size z)

abbrev pub is_bad_id : Line → Bool
is_bad_id (line.Item head) = is_unfit_id head head.id
is_bad_id _ = false

abbrev pub is_unfit_preset : ItemLine → Option Preset → Bool
is_unfit_preset head None = true
is_unfit_preset head (Some (Whole z)) = not (fits head.kind head.size z)
is_unfit_preset head (Some (Raw bytes)) = is_number head.kind || not (has_room head.size (length bytes))

abbrev pub is_bad_preset : Line → Bool
is_bad_preset (line.Item head) = is_unfit_preset head head.preset
is_bad_preset _ = false

-- the numbers of the item could be converted to 2 ^ 126 parts or more
abbrev pub is_large : List Decimal → ItemData → Bool
is_large coefficients i = is_number i.kind && is_too_large (unsigned_abs i.size) coefficients

abbrev pub is_large_conversion : List Decimal → Option ItemData → Bool
is_large_conversion coefficients item = passes (is_large coefficients) item

abbrev pub is_too_large_in : Option ItemData → Line → Bool
is_too_large_in item (line.Detail (detail.Poly coefficients)) = is_large_conversion coefficients item
is_too_large_in item (line.Detail (detail.Segment s)) = is_large_conversion s.coefficients item
is_too_large_in item _ = false

-- ---- limits and formats

abbrev pub has_no_limits : ItemData → Bool
has_no_limits i = is_none i.limits

-- the limits are not in order, or the item's first set is another one than DEFAULT
abbrev pub is_bad_order : Option ItemData → Line → Bool
is_bad_order item (line.Detail (detail.Limits l)) =
    not (are_in_order l.limits) || (passes has_no_limits item && not (is_same l.set (codes "DEFAULT")))
is_bad_order item _ = false

abbrev pub is_bad_format : Line → Bool
is_bad_format (line.Detail (detail.Format text)) = not (is_format text)
is_bad_format _ = false

-- ---- how many

-- how many items there are over all definitions
abbrev pub count_items : List Drafted → ℕ
count_items [] = 0
count_items (d ∷ packets) = length d.packet.items + count_items packets

abbrev pub has_all_states : ItemData → Bool
has_all_states i = nat_le most_states (length i.states)

abbrev pub has_all_segments : ItemData → Bool
has_all_segments i = nat_le most_segments (length (segments_in i.conversion))

-- a limits set that is not known yet, where no further one may be
abbrev pub is_set_too_many : List (List ℕ) → List ℕ → Bool
is_set_too_many sets set = nat_le most_sets (length sets) && not (list_any (is_same set) sets)

abbrev pub is_too_many : List Drafted → List (List ℕ) → Line → Bool
is_too_many packets sets (line.Packet head) = nat_le most_packets (length (packets_of head.kind packets))
is_too_many packets sets (line.Item head) = nat_le most_items (length (open_items packets)) || nat_le most_items_in_all (count_items packets)
is_too_many packets sets (line.Detail (detail.State s)) = passes has_all_states (open_item packets)
is_too_many packets sets (line.Detail (detail.Limits l)) = is_set_too_many sets l.set
is_too_many packets sets (line.Detail (detail.Segment s)) = passes has_all_segments (open_item packets)
is_too_many packets sets _ = false

-- ---- all of them

abbrev pub holds : DefCause → List Drafted → List (List ℕ) → Line → Bool
holds WrongKind packets sets l = is_wrong_kind (open_item packets) l
holds IdNotWhole packets sets l = is_text_id l
holds DoubleName packets sets l = is_double packets l
holds AppendLittleBits packets sets l = is_little_append packets l
holds BadPlace packets sets l = is_bad_place packets l
holds IdOutOfRange packets sets l = is_bad_id l
holds DefaultOutOfRange packets sets l = is_bad_preset l
holds ConversionTooLarge packets sets l = is_too_large_in (open_item packets) l
holds LimitsOrder packets sets l = is_bad_order (open_item packets) l
holds BadFormat packets sets l = is_bad_format l
holds TooMany packets sets l = is_too_many packets sets l
holds _ packets sets l = false

-- the causes in the order in which they are tried, after those of the words
abbrev pub place_order : List DefCause
place_order =
    WrongKind ∷ IdNotWhole ∷ DoubleName ∷ AppendLittleBits ∷ BadPlace ∷ IdOutOfRange ∷ DefaultOutOfRange
    ∷ ConversionTooLarge ∷ LimitsOrder ∷ BadFormat ∷ TooMany ∷ []

abbrev pub place_cause : List Drafted → List (List ℕ) → Line → Option DefCause
place_cause packets sets l = find (λ c. holds c packets sets l) place_order
