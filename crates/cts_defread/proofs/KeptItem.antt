-- One more item keeps its own rules, and what the draft keeps.
use Rattle.std.proofs.Common.{◌≡◌, ℕ, ℤ, ◌+◌, ◌≤◌, ◌<◌, max, Bool, true, false, not, ◌||◌, ◌&&◌, List, [], ◌∷◌, ◌++◌, length, Option, Some, None, refl, sym, ap, ◌∙◌, subst, arith}
use Rattle.std.specs.Prelude.{nat_le, is_some, unsigned_abs}
use Rattle.std.specs.BTreeSet.{BTreeSet, IsEmpty}
use Rattle.std.specs.Cmp.Lexicographic.{slice_cmp}
use Rattle.std.specs.Int.{is_negative}
use Rattle.std.specs.List.{list_any, list_all, IsDistinct}
use Rattle.std.specs.Ordering.{nat_cmp}
use Rattle.std.proofs.lemmas.Bool.{leb-false, and_from, or_parts, not_from_false}
use Rattle.std.proofs.lemmas.List.{map-append, length-append}
use Rattle.cts_base.specs.Known.{Knows, pair_cmp}
use Rattle.cts_base.proofs.Known.{knows_none}
use Rattle.cts_bits.specs.declared.order.Order.{Order}
use Rattle.cts_bits.specs.Places.{last_place}
use Rattle.cts_def.specs.declared.item_kind.ItemKind.{ItemKind}
use Rattle.cts_def.specs.declared.item_kind.Preset.{Preset}
use Rattle.cts_def.specs.declared.item_kind.Preset.TheVariants.{Whole, Raw}
use Rattle.cts_def.specs.declared.span.Span.{Span}
use Rattle.cts_def.specs.Items.{ItemData, IsSoundItem, is_same, span_of, is_sound_id, is_sound_preset, is_to_the_end, has_room}
use Rattle.cts_def.specs.Packets.{received_count}
use Rattle.cts_def.specs.Spans.{end_of, bytes_needed, is_variable, is_number, is_misplaced, is_spelled, is_too_far, is_refused_number, is_bad_from_end, is_split_text, is_text_past_end, ends_too_far}
use Rattle.cts_def.proofs.Needs.{placed as placed_so}
use Rattle.cts_defstatement.specs.declared.line.ItemLine.{ItemLine}
use Rattle.cts_defstatement.specs.declared.line.Line.TheVariants as line
use Rattle.cts_defstatement.specs.declared.open.PacketKind.TheVariants.{Telemetry, Command}
use Rattle.cts_defstatement.specs.Numbers.{is_size}
use Rattle.cts_defstatement.specs.Refusals.{open_kind}
use Rattle.cts_defstatement.specs.Rules.{suits}
use Rattle.cts_defread.specs.declared.draft.Draft.{Draft}
use Rattle.cts_defread.specs.declared.drafted.Drafted.{Drafted}
use Rattle.cts_defread.specs.Causes.{drafted_items, open_items, open_end, order_in, span_in, is_open_ended, opened, is_command_in, of_place, is_after_open_end, is_id_from_end, is_from_end_in_command, is_after_rest_in_command, is_unfit_id, is_unfit_preset, fits, has_item, count_items}
use Rattle.cts_defread.specs.Drafts.{IsKept, names_of, item_names, state_names}
use Rattle.cts_defread.specs.Sound.{AreSound, keeps_its_kind}
use Rattle.cts_defread.specs.Standing.{item_at, end_from, offset_or, preset_or, are_same_kind}
use Rattle.cts_defread.specs.Steps.{add_item, new_item, with_items}
use Rattle.cts_defread.proofs.Clean.{Clean}
use Rattle.cts_defread.proofs.Misplaced.{six_first}
use Rattle.cts_defread.proofs.OfKind.{IsFurther, kinds_item}
use Rattle.cts_defread.proofs.Lists.{any_more}
use Rattle.cts_defread.proofs.Names.{names_on_last, same_count, distinct_kept, count_more}
use Rattle.cts_defread.proofs.Rules.{left_false, or_right, right_false, from_not, left_true, right_true, not_both}
use Rattle.cts_words.specs.Blocks.{last_of, on_last}
use Rattle.cts_words.proofs.Blocks.{last_snoc, on_last_snoc, put_back}

-- ---- the rules of a new item

spelled_in : (kind : ItemKind) (size z : ℤ) → fits kind size z ≡ true → (is_number kind ≡ true) × (is_spelled kind (unsigned_abs size) z ≡ true)
spelled_in kind size z e =
    let front : is_number kind && is_size size ≡ true = left_true (is_number kind && is_size size) (is_spelled kind (unsigned_abs size) z) e in
    (left_true (is_number kind) (is_size size) front, right_true (is_number kind && is_size size) (is_spelled kind (unsigned_abs size) z) e)

id_fits : (head : ItemLine) (i : ItemData) (o : Option ℤ) → i.kind ≡ head.kind → i.size ≡ head.size → is_unfit_id head o ≡ false → is_some o && is_negative i.offset ≡ false → is_sound_id i o ≡ true
id_fits head i None kind size unfit placed = refl
id_fits head i (Some z) kind size unfit placed =
    let fit : fits head.kind head.size z ≡ true = from_not (fits head.kind head.size z) unfit in
    let here : fits i.kind i.size z ≡ true = ap (λ (k : ItemKind). fits k i.size z) kind ∙ ap (λ (s : ℤ). fits head.kind s z) size ∙ fit in
    let parts : (is_number i.kind ≡ true) × (is_spelled i.kind (unsigned_abs i.size) z ≡ true) = spelled_in i.kind i.size z here in
    and_from (is_number i.kind && not (is_negative i.offset)) (is_spelled i.kind (unsigned_abs i.size) z)
    (and_from (is_number i.kind) (not (is_negative i.offset)) parts.0 (not_from_false (is_negative i.offset) placed)) parts.1

preset_fits : (head : ItemLine) (i : ItemData) (o : Option Preset) → i.kind ≡ head.kind → i.size ≡ head.size → is_unfit_preset head o ≡ false → is_sound_preset i (preset_or head.kind o) ≡ true
preset_fits head i None kind size unfit = absurd cc
preset_fits head i (Some (Whole z)) kind size unfit =
    let fit : fits head.kind head.size z ≡ true = from_not (fits head.kind head.size z) unfit in
    let here : fits i.kind i.size z ≡ true = ap (λ (k : ItemKind). fits k i.size z) kind ∙ ap (λ (s : ℤ). fits head.kind s z) size ∙ fit in
    let parts : (is_number i.kind ≡ true) × (is_spelled i.kind (unsigned_abs i.size) z ≡ true) = spelled_in i.kind i.size z here in
    and_from (is_number i.kind) (is_spelled i.kind (unsigned_abs i.size) z) parts.0 parts.1
preset_fits head i (Some (Raw bytes)) kind size unfit =
    let text : is_number i.kind ≡ false = ap is_number kind ∙ left_false (is_number head.kind) (not (has_room head.size (length bytes))) unfit in
    let room : has_room i.size (length bytes) ≡ true =
    ap (λ (s : ℤ). has_room s (length bytes)) size ∙ from_not (has_room head.size (length bytes)) (right_false (is_number head.kind) (not (has_room head.size (length bytes))) unfit) in
    and_from (not (is_number i.kind)) (has_room i.size (length bytes)) (not_from_false (is_number i.kind) text) room

rules_of : (i : ItemData) (head : ItemLine) (order : Order) (end : ℕ) → i ≡ item_at order end head [] → is_misplaced (span_of i) ≡ false → is_unfit_id head head.id ≡ false → is_some head.id && is_negative i.offset ≡ false
    → is_unfit_preset head head.preset ≡ false → IsSoundItem (item_at order end head [])
unfolding IsDistinct
rules_of i head order end same placed unfit_id id_placed unfit_preset =
    let item : ItemData = item_at order end head [] in
    record {
      placed = ap (λ (j : ItemData). is_misplaced (span_of j)) (sym same) ∙ placed;
      id = id_fits head item head.id refl refl unfit_id (ap (λ (j : ItemData). is_some head.id && is_negative j.offset) (sym same) ∙ id_placed);
      preset = preset_fits head item head.preset refl refl unfit_preset;
      numbers_alone_have_states = or_right (is_number head.kind) true refl;
      states = tt;
      sound_states = refl;
      few_states = omega arith;
      conversion = tt;
      limits = tt;
      format = refl;
    }

open_of : (ps front : List Drafted) (d : Drafted) → ps ≡ front ++ d ∷ [] → last_of ps ≡ Some d
open_of ps front d e = ap last_of e ∙ last_snoc front d

-- where the line's item lies
lies_last : (ps : List Drafted) (d : Drafted) (head : ItemLine) → last_of ps ≡ Some d → span_in ps head ≡ span_of (new_item head d)
lies_last ps d head last =
    ap
    (λ (o : Option Drafted). record {
      kind = head.kind;
      order = order_in o head.order;
      offset = offset_or (end_from 0 (drafted_items o)) head.offset;
      size = head.size;
    })
    last

lies : (ps front : List Drafted) (d : Drafted) (head : ItemLine) → ps ≡ front ++ d ∷ [] → span_in ps head ≡ span_of (new_item head d)
lies ps front d head e = lies_last ps d head (open_of ps front d e)

-- ---- what no bad place says

record IsPlaced (ps : List Drafted) (head : ItemLine) : Type 0 where
  pub place : is_misplaced (span_in ps head) ≡ false
  pub id : is_id_from_end ps head ≡ false
  pub command : is_from_end_in_command ps head ≡ false
  pub later : is_after_rest_in_command ps head ≡ false

is_placed : (ps : List Drafted) (sets : List (List ℕ)) (head : ItemLine) → Clean ps sets (line.Item head) → IsPlaced ps head
is_placed ps sets head h =
    let six = six_first (of_place is_too_far ps head) (of_place is_refused_number ps head) (of_place is_bad_from_end ps head) (of_place is_split_text ps head) (of_place is_text_past_end ps head) (of_place ends_too_far ps head)
    (is_after_open_end ps head || (is_id_from_end ps head || (is_from_end_in_command ps head || (is_after_rest_in_command ps head || false)))) h.placed in
    let a = or_parts (is_after_open_end ps head) (is_id_from_end ps head || (is_from_end_in_command ps head || (is_after_rest_in_command ps head || false))) six.1 in
    let b = or_parts (is_id_from_end ps head) (is_from_end_in_command ps head || (is_after_rest_in_command ps head || false)) a.1 in
    let c = or_parts (is_from_end_in_command ps head) (is_after_rest_in_command ps head || false) b.1 in
    let d = or_parts (is_after_rest_in_command ps head) false c.1 in
    record { place = six.0; id = b.0; command = c.0; later = d.0 }

place_false : (ps front : List Drafted) (d : Drafted) (sets : List (List ℕ)) (head : ItemLine) → ps ≡ front ++ d ∷ [] → Clean ps sets (line.Item head) → is_misplaced (span_of (new_item head d)) ≡ false
place_false ps front d sets head e h = ap is_misplaced (sym (lies ps front d head e)) ∙ (is_placed ps sets head h).place

pub new_rules : (ps front : List Drafted) (d : Drafted) (sets : List (List ℕ)) (head : ItemLine) (end : ℕ) → ps ≡ front ++ d ∷ [] → end ≡ open_end ps → Clean ps sets (line.Item head) → IsSoundItem (item_at d.order end head [])
new_rules ps front d sets head end e at h =
    let here : end_from 0 d.packet.items ≡ end = sym (at ∙ ap (λ (o : Option Drafted). end_from 0 (drafted_items o)) (open_of ps front d e)) in
    rules_of (new_item head d) head d.order end (ap (λ (n : ℕ). item_at d.order n head []) here) (place_false ps front d sets head e h) h.id
    (ap (λ (s : Span). is_some head.id && is_negative s.offset) (sym (lies ps front d head e)) ∙ (is_placed ps sets head h).id) h.preset

-- ---- what the packet asks of it

pub few_items : (ps front : List Drafted) (d : Drafted) (sets : List (List ℕ)) (head : ItemLine) → ps ≡ front ++ d ∷ [] → Clean ps sets (line.Item head) → nat_le 4096 (length d.packet.items) ≡ false
few_items ps front d sets head e h =
    ap (λ (o : Option Drafted). nat_le 4096 (length (drafted_items o))) (sym (open_of ps front d e)) ∙ left_false (nat_le 4096 (length (open_items ps))) (nat_le 65536 (count_items ps)) h.few

pub other_name : (ps : List Drafted) (sets : List (List ℕ)) (head : ItemLine) → Clean ps sets (line.Item head) → is_same head.name received_count ≡ false
other_name ps sets head h = left_false (is_same head.name received_count) (has_item (open_items ps) head.name) h.single

pub single_name : (ps front : List Drafted) (d : Drafted) (sets : List (List ℕ)) (head : ItemLine) → ps ≡ front ++ d ∷ [] → Clean ps sets (line.Item head) → has_item d.packet.items head.name ≡ false
single_name ps front d sets head e h =
    ap (λ (o : Option Drafted). has_item (drafted_items o) head.name) (sym (open_of ps front d e)) ∙ right_false (is_same head.name received_count) (has_item (open_items ps) head.name) h.single

-- ---- what the draft keeps

end_more : (end : ℕ) (is : List ItemData) (i : ItemData) → end_from end (is ++ i ∷ []) ≡ max (end_from end is) (end_of (span_of i))
end_more end [] i = refl
end_more end (j ∷ is) i = end_more (max end (end_of (span_of j))) is i

pub is_further : (ps : List Drafted) (d : Drafted) (sets : List (List ℕ)) (head : ItemLine) → last_of ps ≡ Some d → Clean ps sets (line.Item head) → are_same_kind Command d.kind ≡ true → IsFurther d head
is_further ps d sets head last h command =
    let is_one : is_command_in (last_of ps) ≡ true = ap is_command_in last ∙ command in
    let near : is_negative (span_in ps head).offset || is_negative head.size ≡ false =
    not_both (is_command_in (last_of ps)) (is_negative (span_in ps head).offset || is_negative head.size) (is_placed ps sets head h).command is_one in
    let rest : list_any is_to_the_end (open_items ps) ≡ false = not_both (is_command_in (last_of ps)) (list_any is_to_the_end (open_items ps)) (is_placed ps sets head h).later is_one in
    let sides = or_parts (is_negative (span_in ps head).offset) (is_negative head.size) near in
    let offset : is_negative (span_of (new_item head d)).offset ≡ false = ap (λ (s : Span). is_negative s.offset) (sym (lies_last ps d head last)) ∙ sides.0 in
    record {
      from_start =
          and_from (not (is_negative (span_of (new_item head d)).offset)) (not (is_negative head.size)) (not_from_false (is_negative (span_of (new_item head d)).offset) offset)
          (not_from_false (is_negative head.size) sides.1);
      later = ap (λ (o : Option Drafted). list_any is_to_the_end (drafted_items o)) (sym last) ∙ rest;
    }

item_sound : (old new front : List Drafted) (d : Drafted) (sets : List (List ℕ)) (head : ItemLine) → old ≡ front ++ d ∷ [] → new ≡ on_last (add_item head) old → Clean old sets (line.Item head) → suits (open_kind (opened old)) (line.Item head) ≡ true → AreSound old sets → AreSound new sets
item_sound old new front d sets head popped placed h suited sound = record {
  telemetry = distinct_kept Telemetry new old (ap (names_of Telemetry) placed ∙ names_on_last Telemetry (add_item head) old (λ p. refl)) sound.telemetry;
  commands = distinct_kept Command new old (ap (names_of Command) placed ∙ names_on_last Command (add_item head) old (λ p. refl)) sound.commands;
  kinds =
      ap (λ (ps : List Drafted). list_all (keeps_its_kind sets) ps) placed
      ∙ kinds_item sets old head suited h.whole_id (λ p last kind. is_further old p sets head last h kind) sound.kinds;
  first_set = sound.first_set;
  distinct_sets = sound.distinct_sets;
  few_sets = sound.few_sets;
}

abbrev with_item : Drafted → ItemData → Drafted
with_item d i = with_items d (d.packet.items ++ i ∷ []) (max d.packet.length (bytes_needed (span_of i))) (d.packet.variable || is_variable (span_of i))

-- the item that the draft makes is the one that the line adds
same_item : (old front : List Drafted) (d : Drafted) (item : ItemData) (head : ItemLine) (end : ℕ) → old ≡ front ++ d ∷ [] → end ≡ open_end old → item ≡ item_at d.order end head [] → item ≡ new_item head d
same_item old front d item head end popped at same =
    same ∙ ap (λ (n : ℕ). item_at d.order n head []) (at ∙ ap (λ (o : Option Drafted). end_from 0 (drafted_items o)) (open_of old front d popped))

pub item_placed : (old front new : List Drafted) (d p : Drafted) (item : ItemData) (head : ItemLine) (end : ℕ) → old ≡ front ++ d ∷ [] → end ≡ open_end old → item ≡ item_at d.order end head []
    → p ≡ with_item d item → new ≡ front ++ p ∷ [] → new ≡ on_last (add_item head) old
item_placed old front new d p item head end popped at same made pushed =
    put_back (add_item head) old front new d popped
    (pushed ∙ ap (λ (q : Drafted). front ++ q ∷ []) (made ∙ ap (with_item d) (same_item old front d item head end popped at same)))

-- what of the draft an item leaves as it is
pub record SameElse (new old : Draft) : Type 0 where
  pub telemetry : new.telemetry ≡ old.telemetry
  pub commands : new.commands ≡ old.commands
  pub sets : new.sets ≡ old.sets
  pub set_names : new.set_names.items ≡ old.set_names.items
  pub telemetry_count : new.telemetry_count ≡ old.telemetry_count
  pub command_count : new.command_count ≡ old.command_count

pub item_kept : (old new : Draft) (front : List Drafted) (d : Drafted) (item : ItemData) (head : ItemLine) → IsKept old → Clean old.packets.items old.set_names.items (line.Item head) → suits (open_kind (opened old.packets.items)) (line.Item head) ≡ true → SameElse new old
    → old.packets.items ≡ front ++ d ∷ [] → item ≡ item_at d.order old.end head [] → new.packets.items ≡ on_last (add_item head) old.packets.items
    → Knows (slice_cmp nat_cmp) new.items (item_names (open_items old.packets.items) ++ head.name ∷ []) → IsEmpty new.states → new.item_count ≡ old.item_count + 1
    → new.end ≡ max old.end (end_of (span_of item)) → new.is_open_ended ≡ old.is_open_ended || is_open_ended item → new.is_to_the_end ≡ old.is_to_the_end || is_to_the_end item → IsKept new
item_kept old new front d item head h clean suited same popped made placed names states count end ended filled =
    let i : ItemData = new_item head d in
    let is_one : item ≡ i = same_item old.packets.items front d item head old.end popped h.ends made in
    let later : new.packets.items ≡ front ++ add_item head d ∷ [] = placed ∙ ap (on_last (add_item head)) popped ∙ on_last_snoc (add_item head) front d in
    let before : open_items old.packets.items ≡ d.packet.items = ap drafted_items (open_of old.packets.items front d popped) in
    let after : open_items new.packets.items ≡ d.packet.items ++ i ∷ [] = ap drafted_items (open_of new.packets.items front (add_item head d) later) in
    let telemetry : names_of Telemetry new.packets.items ≡ names_of Telemetry old.packets.items = ap (names_of Telemetry) placed ∙ names_on_last Telemetry (add_item head) old.packets.items (λ p. refl) in
    let commands : names_of Command new.packets.items ≡ names_of Command old.packets.items = ap (names_of Command) placed ∙ names_on_last Command (add_item head) old.packets.items (λ p. refl) in
    let total : count_items new.packets.items ≡ count_items old.packets.items + 1 =
    omega (arith, ap count_items later, count_more front (add_item head d), length-append d.packet.items (i ∷ []), ap count_items popped, count_more front d) in
    let room : end_of (span_of i) ≤ last_place = (placed_so (span_of i) (place_false old.packets.items front d old.set_names.items head popped clean)).end in
    let few : count_items old.packets.items < 65536 = leb-false 65536 (count_items old.packets.items) (right_false (nat_le 4096 (length (open_items old.packets.items))) (nat_le 65536 (count_items old.packets.items)) clean.few) in
    let new_end : new.end ≡ max old.end (end_of (span_of i)) = end ∙ ap (λ (j : ItemData). max old.end (end_of (span_of j))) is_one in
    record {
      telemetry =
          subst (λ (s : BTreeSet (List ℕ × List ℕ)). Knows pair_cmp s (names_of Telemetry new.packets.items)) (sym same.telemetry)
          (subst (λ (ns : List (List ℕ × List ℕ)). Knows pair_cmp old.telemetry ns) (sym telemetry) h.telemetry);
      commands =
          subst (λ (s : BTreeSet (List ℕ × List ℕ)). Knows pair_cmp s (names_of Command new.packets.items)) (sym same.commands)
          (subst (λ (ns : List (List ℕ × List ℕ)). Knows pair_cmp old.commands ns) (sym commands) h.commands);
      items =
          subst (λ (ns : List (List ℕ)). Knows (slice_cmp nat_cmp) new.items ns)
          (ap (λ (is : List ItemData). item_names is ++ head.name ∷ []) before ∙ sym (ap item_names after ∙ map-append (λ (j : ItemData). j.name) d.packet.items (i ∷ []))) names;
      states =
          subst (λ (o : Option ItemData). Knows (slice_cmp nat_cmp) new.states (state_names o)) (sym (ap last_of after ∙ last_snoc d.packet.items i)) (knows_none (slice_cmp nat_cmp) new.states states);
      sets =
          subst (λ (s : BTreeSet (List ℕ)). Knows (slice_cmp nat_cmp) s new.set_names.items) (sym same.sets)
          (subst (λ (ns : List (List ℕ)). Knows (slice_cmp nat_cmp) old.sets ns) (sym same.set_names) h.sets);
      telemetry_count = same.telemetry_count ∙ h.telemetry_count ∙ same_count Telemetry new.packets.items old.packets.items telemetry;
      command_count = same.command_count ∙ h.command_count ∙ same_count Command new.packets.items old.packets.items commands;
      item_count = omega (arith, count, h.item_count, total);
      ends =
          new_end ∙ ap (λ (n : ℕ). max n (end_of (span_of i))) (h.ends ∙ ap (end_from 0) before) ∙ sym (ap (end_from 0) after ∙ end_more 0 d.packet.items i);
      ended =
          ended ∙ ap (λ (j : ItemData). old.is_open_ended || is_open_ended j) is_one ∙ ap (λ (b : Bool). b || is_open_ended i) (h.ended ∙ ap (list_any is_open_ended) before)
          ∙ sym (ap (list_any is_open_ended) after ∙ any_more is_open_ended d.packet.items i);
      filled =
          filled ∙ ap (λ (j : ItemData). old.is_to_the_end || is_to_the_end j) is_one ∙ ap (λ (b : Bool). b || is_to_the_end i) (h.filled ∙ ap (list_any is_to_the_end) before)
          ∙ sym (ap (list_any is_to_the_end) after ∙ any_more is_to_the_end d.packet.items i);
      few_telemetry = omega (arith, same.telemetry_count, h.few_telemetry);
      few_commands = omega (arith, same.command_count, h.few_commands);
      few_items = omega (arith, count, h.item_count, few);
      room = omega (arith, new_end, h.room, room);
      sound = subst (λ (ss : List (List ℕ)). AreSound new.packets.items ss) (sym same.set_names) (item_sound old.packets.items new.packets.items front d old.set_names.items head popped placed clean suited h.sound);
    }
