-- What one more line changes. The functions of the crate cite this, and the definitions do not.
use Rattle.std.specs.Prelude.{ℕ, max, List, [], ◌∷◌, ◌++◌, Option, Some, None, true, false, Bool, ◌||◌, if◌then◌else◌}
use Rattle.std.specs.List.{list_any}
use Rattle.cts_def.specs.declared.conversion.Conversion.{Conversion}
use Rattle.cts_def.specs.declared.conversion.Conversion.TheVariants.{Plain, Poly, Segments}
use Rattle.cts_def.specs.declared.conversion.Segment.{Segment}
use Rattle.cts_def.specs.declared.limits_setup.LimitsSetup.{LimitsSetup}
use Rattle.cts_def.specs.Items.{ItemData, span_of, is_same}
use Rattle.cts_def.specs.Spans.{bytes_needed, is_variable}
use Rattle.cts_defstatement.specs.declared.details.Detail.{Detail}
use Rattle.cts_defstatement.specs.declared.details.Detail.TheVariants as detail
use Rattle.cts_defstatement.specs.declared.details.LimitsLine.{LimitsLine}
use Rattle.cts_defstatement.specs.declared.line.ItemLine.{ItemLine}
use Rattle.cts_defstatement.specs.declared.line.PacketLine.{PacketLine}
use Rattle.cts_defstatement.specs.declared.line.Line.{Line}
use Rattle.cts_defstatement.specs.declared.line.Line.TheVariants as line
use Rattle.cts_defread.specs.declared.drafted.Drafted.{Drafted}
use Rattle.cts_defread.specs.Standing.{item_at, end_from, set_limits}
use Rattle.cts_words.specs.Blocks.{on_last}

-- ---- items

abbrev pub add_segment : Segment → Conversion → Conversion
add_segment s Plain = Segments (s ∷ [])
add_segment s (Poly coefficients) = Poly coefficients
add_segment s (Segments segments) = Segments (segments ++ s ∷ [])

abbrev pub add_limits : LimitsLine → Option LimitsSetup → Option LimitsSetup
add_limits l None = Some (record { sets = set_limits l ∷ []; persistence = l.persistence; enabled = l.enabled })
add_limits l (Some setup) =
    Some (record { sets = setup.sets ++ set_limits l ∷ []; persistence = setup.persistence; enabled = setup.enabled })

abbrev pub change_item : Detail → ItemData → ItemData
change_item (detail.State s) i = record i { states = i.states ++ s ∷ [] }
change_item (detail.Limits l) i = record i { limits = add_limits l i.limits }
change_item (detail.Poly coefficients) i = record i { conversion = Poly coefficients }
change_item (detail.Segment s) i = record i { conversion = add_segment s i.conversion }
change_item (detail.Units full short) i = record i { units = Some (full, short) }
change_item (detail.Format text) i = record i { format = Some text }
change_item (detail.Overflow o) i = record i { overflow = o }
change_item detail.Required i = record i { required = true }

-- ---- definitions

abbrev pub with_items : Drafted → List ItemData → ℕ → Bool → Drafted
with_items d items length variable = record {
  kind = d.kind;
  order = d.order;
  packet = record d.packet { items = items; length = length; variable = variable };
}

abbrev pub new_item : ItemLine → Drafted → ItemData
new_item head d = item_at d.order (end_from 0 d.packet.items) head []

abbrev pub add_item : ItemLine → Drafted → Drafted
add_item head d =
    let item = new_item head d in
    with_items d (d.packet.items ++ item ∷ []) (max d.packet.length (bytes_needed (span_of item)))
    (d.packet.variable || is_variable (span_of item))

abbrev pub add_detail : Detail → Drafted → Drafted
add_detail change d = with_items d (on_last (change_item change) d.packet.items) d.packet.length d.packet.variable

abbrev pub make_hazardous : Drafted → Drafted
make_hazardous d = record { kind = d.kind; order = d.order; packet = record d.packet { hazardous = true } }

abbrev pub new_packet : PacketLine → Drafted
new_packet head = record {
  kind = head.kind;
  order = head.order;
  packet = record { target = head.target; name = head.name; items = []; length = 0; variable = false; hazardous = false };
}

abbrev pub place : Line → List Drafted → List Drafted
place (line.Packet head) packets = packets ++ new_packet head ∷ []
place (line.Item head) packets = on_last (add_item head) packets
place (line.Detail change) packets = on_last (add_detail change) packets
place line.Hazardous packets = on_last make_hazardous packets
place line.NoEffect packets = packets

-- ---- limits sets

abbrev pub add_set : List ℕ → List (List ℕ) → List (List ℕ)
add_set set sets = if list_any (is_same set) sets then sets else sets ++ set ∷ []

abbrev pub place_set : Line → List (List ℕ) → List (List ℕ)
place_set (line.Detail (detail.Limits l)) sets = add_set l.set sets
place_set _ sets = sets
