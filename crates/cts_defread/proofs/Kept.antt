-- What the draft keeps beside the definitions stays what would be found.
use Rattle.std.proofs.Common.{◌≡◌, ℕ, ◌≤◌, max, Bool, true, false, cond, List, [], ◌∷◌, ◌++◌, map, length, Option, Some, None, refl, sym, ap, ◌∙◌, subst, arith}
use Rattle.std.specs.Prelude.{pos, not, ◌&&◌, nat_le, int_le, is_some, option_map}
use Rattle.std.specs.BTreeSet.{BTreeSet, IsEmpty}
use Rattle.std.specs.Cmp.Lexicographic.{slice_cmp}
use Rattle.std.specs.List.{list_any, list_all, IsDistinct}
use Rattle.std.specs.Ordering.{nat_cmp, int_eq}
use Rattle.std.proofs.lemmas.Bool.{leb-false}
use Rattle.std.proofs.lemmas.Cmp.{nat_list_eq_equiv}
use Rattle.std.proofs.lemmas.List.{append-nil, map-append, length-append}
use Rattle.std.proofs.lemmas.Map.Keys.{IsDistinct-from_apart, IsDistinct-push}
use Rattle.cts_base.specs.Known.{Knows, pair_cmp}
use Rattle.cts_base.proofs.Known.{knows_none}
use Rattle.cts_def.specs.declared.span.Span.{Span}
use Rattle.cts_def.specs.declared.state_def.StateDef.{StateDef}
use Rattle.cts_def.specs.Items.{ItemData, span_of, is_same, is_to_the_end}
use Rattle.cts_def.specs.Packets.{begins_with_set, default_set}
use Rattle.cts_def.specs.Spans.{end_of}
use Rattle.cts_defstatement.specs.declared.details.Detail.{Detail}
use Rattle.cts_defstatement.specs.declared.details.Detail.TheVariants as detail
use Rattle.cts_defstatement.specs.declared.line.Line.TheVariants as line
use Rattle.cts_defstatement.specs.declared.open.PacketKind.TheVariants.{Telemetry, Command}
use Rattle.cts_defstatement.specs.Refusals.{open_kind}
use Rattle.cts_defstatement.specs.Rules.{suits}
use Rattle.cts_defread.specs.declared.draft.Draft.{Draft}
use Rattle.cts_defread.specs.declared.drafted.Drafted.{Drafted}
use Rattle.cts_defread.specs.Causes.{drafted_items, open_items, open_item, open_end, is_open_ended, count_items, is_too_many, opened, place_cause}
use Rattle.cts_defread.specs.Drafts.{IsKept, names_of, item_names, state_names, state_name, taken_name}
use Rattle.cts_defread.specs.Sound.{AreSound, keeps_its_kind}
use Rattle.cts_defread.specs.Standing.{end_from, packets_of}
use Rattle.cts_defread.specs.Steps.{change_item, add_detail, make_hazardous, place_set}
use Rattle.cts_defread.proofs.Clean.{clean}
use Rattle.cts_defread.proofs.Lists.{map_on_last, any_on_last, last_on_last, length_on_last}
use Rattle.cts_defread.proofs.OfKind.{kinds_detail, kinds_hazardous}
use Rattle.cts_defread.proofs.More.{same_name, same_span}
use Rattle.cts_defread.proofs.Names.{names_on_last, same_count, distinct_kept, count_on_last}
use Rattle.cts_words.specs.Blocks.{last_of, on_last}

-- ---- no definitions

no_packets : (ps : List Drafted) (sets : List (List ℕ)) → ps ≡ [] → sets ≡ default_set ∷ [] → AreSound ps sets
unfolding IsDistinct
no_packets ps sets e f =
    let P : List Drafted → Type 0 = λ qs. AreSound qs sets in
    let Q : List (List ℕ) → Type 0 = λ ss. AreSound [] ss in
    let none : Q (default_set ∷ []) = record { telemetry = tt; commands = tt; kinds = refl; first_set = refl; distinct_sets = IsDistinct-from_apart is_same (default_set ∷ []) (λ i j d before within. absurd (omega arith)); few_sets = omega arith } in
    subst P (sym e) (subst Q (sym f) none)

pub none_kept : (d : Draft) → d.packets.items ≡ [] → d.set_names.items ≡ default_set ∷ [] → IsEmpty d.telemetry → IsEmpty d.commands → IsEmpty d.items → IsEmpty d.states → Knows (slice_cmp nat_cmp) d.sets (default_set ∷ [])
    → d.telemetry_count ≡ 0 → d.command_count ≡ 0 → d.item_count ≡ 0 → d.end ≡ 0 → d.is_open_ended ≡ false → d.is_to_the_end ≡ false → IsKept d
none_kept d packets set_names telemetry commands items states sets telemetry_count command_count item_count end ended filled = record {
  telemetry = subst (λ (ps : List Drafted). Knows pair_cmp d.telemetry (names_of Telemetry ps)) (sym packets) (knows_none pair_cmp d.telemetry telemetry);
  commands = subst (λ (ps : List Drafted). Knows pair_cmp d.commands (names_of Command ps)) (sym packets) (knows_none pair_cmp d.commands commands);
  items = subst (λ (ps : List Drafted). Knows (slice_cmp nat_cmp) d.items (item_names (open_items ps))) (sym packets) (knows_none (slice_cmp nat_cmp) d.items items);
  states = subst (λ (ps : List Drafted). Knows (slice_cmp nat_cmp) d.states (state_names (open_item ps))) (sym packets) (knows_none (slice_cmp nat_cmp) d.states states);
  sets = subst (λ (ss : List (List ℕ)). Knows (slice_cmp nat_cmp) d.sets ss) (sym set_names) sets;
  telemetry_count = telemetry_count ∙ sym (ap (λ (ps : List Drafted). length (packets_of Telemetry ps)) packets);
  command_count = command_count ∙ sym (ap (λ (ps : List Drafted). length (packets_of Command ps)) packets);
  item_count = item_count ∙ sym (ap count_items packets);
  ends = end ∙ sym (ap open_end packets);
  ended = ended ∙ sym (ap (λ (ps : List Drafted). list_any is_open_ended (open_items ps)) packets);
  filled = filled ∙ sym (ap (λ (ps : List Drafted). list_any is_to_the_end (open_items ps)) packets);
  few_telemetry = omega (arith, telemetry_count);
  few_commands = omega (arith, command_count);
  few_items = omega (arith, item_count);
  room = omega (arith, end);
  sound = no_packets d.packets.items d.set_names.items packets set_names;
}

-- ---- the same definitions, with the last item or definition changed in what is not kept

-- what the items of the open definition keep
pub record SameItems (is js : List ItemData) : Type 0 where
  pub names : item_names is ≡ item_names js
  pub ends : end_from 0 is ≡ end_from 0 js
  pub ended : list_any is_open_ended is ≡ list_any is_open_ended js
  pub filled : list_any is_to_the_end is ≡ list_any is_to_the_end js

-- what all definitions keep
pub record SamePackets (ps qs : List Drafted) : Type 0 where
  pub telemetry : names_of Telemetry ps ≡ names_of Telemetry qs
  pub commands : names_of Command ps ≡ names_of Command qs
  pub count : count_items ps ≡ count_items qs
  pub items : SameItems (open_items ps) (open_items qs)

-- what the draft keeps
pub record SameDraft (new old : Draft) : Type 0 where
  pub telemetry : new.telemetry ≡ old.telemetry
  pub commands : new.commands ≡ old.commands
  pub items : new.items ≡ old.items
  pub telemetry_count : new.telemetry_count ≡ old.telemetry_count
  pub command_count : new.command_count ≡ old.command_count
  pub item_count : new.item_count ≡ old.item_count
  pub ends : new.end ≡ old.end
  pub ended : new.is_open_ended ≡ old.is_open_ended
  pub filled : new.is_to_the_end ≡ old.is_to_the_end

sound_kept : (ps qs : List Drafted) (sets sets' : List (List ℕ)) → SamePackets ps qs → list_all (keeps_its_kind sets') ps ≡ true → begins_with_set default_set sets' ≡ true → IsDistinct is_same sets' → length sets' ≤ 64 → AreSound qs sets → AreSound ps sets'
sound_kept ps qs sets sets' same kinds first distinct few h = record {
  telemetry = distinct_kept Telemetry ps qs same.telemetry h.telemetry;
  commands = distinct_kept Command ps qs same.commands h.commands;
  kinds = kinds;
  first_set = first;
  distinct_sets = distinct;
  few_sets = few;
}

-- the same of equal lists
same_kinds : (sets sets' : List (List ℕ)) (ps qs : List Drafted) → sets' ≡ sets → ps ≡ qs → list_all (keeps_its_kind sets) qs ≡ true → list_all (keeps_its_kind sets') ps ≡ true
same_kinds sets sets' ps qs s p all = ap (λ (rs : List Drafted). list_all (keeps_its_kind sets') rs) p ∙ ap (λ (ss : List (List ℕ)). list_all (keeps_its_kind ss) qs) s ∙ all

pub changed_kept : (old new : Draft) → IsKept old → SameDraft new old → SamePackets new.packets.items old.packets.items
    → Knows (slice_cmp nat_cmp) new.states (state_names (open_item new.packets.items)) → Knows (slice_cmp nat_cmp) new.sets new.set_names.items → AreSound new.packets.items new.set_names.items → IsKept new
changed_kept old new h same packets states sets sound = record {
  telemetry =
      subst (λ (s : BTreeSet (List ℕ × List ℕ)). Knows pair_cmp s (names_of Telemetry new.packets.items)) (sym same.telemetry)
      (subst (λ (ns : List (List ℕ × List ℕ)). Knows pair_cmp old.telemetry ns) (sym packets.telemetry) h.telemetry);
  commands =
      subst (λ (s : BTreeSet (List ℕ × List ℕ)). Knows pair_cmp s (names_of Command new.packets.items)) (sym same.commands)
      (subst (λ (ns : List (List ℕ × List ℕ)). Knows pair_cmp old.commands ns) (sym packets.commands) h.commands);
  items =
      subst (λ (s : BTreeSet (List ℕ)). Knows (slice_cmp nat_cmp) s (item_names (open_items new.packets.items))) (sym same.items)
      (subst (λ (ns : List (List ℕ)). Knows (slice_cmp nat_cmp) old.items ns) (sym packets.items.names) h.items);
  states = states;
  sets = sets;
  telemetry_count = same.telemetry_count ∙ h.telemetry_count ∙ same_count Telemetry new.packets.items old.packets.items packets.telemetry;
  command_count = same.command_count ∙ h.command_count ∙ same_count Command new.packets.items old.packets.items packets.commands;
  item_count = same.item_count ∙ h.item_count ∙ sym packets.count;
  ends = same.ends ∙ h.ends ∙ sym packets.items.ends;
  ended = same.ended ∙ h.ended ∙ sym packets.items.ended;
  filled = same.filled ∙ h.filled ∙ sym packets.items.filled;
  few_telemetry = omega (arith, same.telemetry_count, h.few_telemetry);
  few_commands = omega (arith, same.command_count, h.few_commands);
  few_items = omega (arith, same.item_count, h.few_items);
  room = omega (arith, same.ends, h.room);
  sound = sound;
}

-- ---- a hazardous command

hazardous_items : (o : Option Drafted) → drafted_items (option_map make_hazardous o) ≡ drafted_items o
hazardous_items None = refl
hazardous_items (Some d) = refl

hazardous_open : (ps : List Drafted) → open_items (on_last make_hazardous ps) ≡ open_items ps
hazardous_open ps = ap drafted_items (last_on_last make_hazardous ps) ∙ hazardous_items (last_of ps)

same_items : (is js : List ItemData) → is ≡ js → SameItems is js
same_items is js e = record {
  names = ap item_names e;
  ends = ap (end_from 0) e;
  ended = ap (list_any is_open_ended) e;
  filled = ap (list_any is_to_the_end) e;
}

hazardous_same : (ps qs : List Drafted) → ps ≡ on_last make_hazardous qs → SamePackets ps qs
hazardous_same ps qs e = record {
  telemetry = ap (names_of Telemetry) e ∙ names_on_last Telemetry make_hazardous qs (λ d. refl);
  commands = ap (names_of Command) e ∙ names_on_last Command make_hazardous qs (λ d. refl);
  count = ap count_items e ∙ count_on_last make_hazardous qs (λ d. refl);
  items = same_items (open_items ps) (open_items qs) (ap open_items e ∙ hazardous_open qs);
}

pub hazardous_kept : (old new : Draft) → IsKept old → suits (open_kind (opened old.packets.items)) line.Hazardous ≡ true → SameDraft new old → new.states ≡ old.states → new.sets ≡ old.sets → new.set_names.items ≡ old.set_names.items
    → new.packets.items ≡ on_last make_hazardous old.packets.items → IsKept new
hazardous_kept old new h suited same states sets names placed =
    let packets : SamePackets new.packets.items old.packets.items = hazardous_same new.packets.items old.packets.items placed in
    let open_same : open_items new.packets.items ≡ open_items old.packets.items = ap open_items placed ∙ hazardous_open old.packets.items in
    changed_kept old new h same packets
    (subst (λ (s : BTreeSet (List ℕ)). Knows (slice_cmp nat_cmp) s (state_names (open_item new.packets.items))) (sym states)
    (subst (λ (is : List ItemData). Knows (slice_cmp nat_cmp) old.states (state_names (last_of is))) (sym open_same) h.states))
    (subst (λ (s : BTreeSet (List ℕ)). Knows (slice_cmp nat_cmp) s new.set_names.items) (sym sets) (subst (λ (ns : List (List ℕ)). Knows (slice_cmp nat_cmp) old.sets ns) (sym names) h.sets))
    (sound_kept new.packets.items old.packets.items old.set_names.items new.set_names.items packets
    (same_kinds old.set_names.items new.set_names.items new.packets.items (on_last make_hazardous old.packets.items) names placed (kinds_hazardous old.set_names.items old.packets.items suited h.sound.kinds))
    (ap (begins_with_set default_set) names ∙ h.sound.first_set) (subst (λ (ns : List (List ℕ)). IsDistinct is_same ns) (sym names) h.sound.distinct_sets) (omega (arith, ap (λ (ns : List (List ℕ)). length ns) names, h.sound.few_sets)) h.sound)

-- ---- nothing was changed

pub unchanged_kept : (old new : Draft) → IsKept old → SameDraft new old → new.states ≡ old.states → new.sets ≡ old.sets → new.set_names.items ≡ old.set_names.items → new.packets.items ≡ old.packets.items → IsKept new
unchanged_kept old new h same states sets names placed =
    let packets : SamePackets new.packets.items old.packets.items = record {
      telemetry = ap (names_of Telemetry) placed;
      commands = ap (names_of Command) placed;
      count = ap count_items placed;
      items = same_items (open_items new.packets.items) (open_items old.packets.items) (ap open_items placed);
    } in
    changed_kept old new h same packets
    (subst (λ (s : BTreeSet (List ℕ)). Knows (slice_cmp nat_cmp) s (state_names (open_item new.packets.items))) (sym states)
    (subst (λ (ps : List Drafted). Knows (slice_cmp nat_cmp) old.states (state_names (open_item ps))) (sym placed) h.states))
    (subst (λ (s : BTreeSet (List ℕ)). Knows (slice_cmp nat_cmp) s new.set_names.items) (sym sets) (subst (λ (ns : List (List ℕ)). Knows (slice_cmp nat_cmp) old.sets ns) (sym names) h.sets))
    (sound_kept new.packets.items old.packets.items old.set_names.items new.set_names.items packets
    (same_kinds old.set_names.items new.set_names.items new.packets.items old.packets.items names placed h.sound.kinds)
    (ap (begins_with_set default_set) names ∙ h.sound.first_set) (subst (λ (ns : List (List ℕ)). IsDistinct is_same ns) (sym names) h.sound.distinct_sets) (omega (arith, ap (λ (ns : List (List ℕ)). length ns) names, h.sound.few_sets)) h.sound)

-- ---- a detail

detail_items : (d : Detail) (o : Option Drafted) → drafted_items (option_map (add_detail d) o) ≡ on_last (change_item d) (drafted_items o)
detail_items d None = refl
detail_items d (Some p) = refl

detail_open : (d : Detail) (ps : List Drafted) → open_items (on_last (add_detail d) ps) ≡ on_last (change_item d) (open_items ps)
detail_open d ps = ap drafted_items (last_on_last (add_detail d) ps) ∙ detail_items d (last_of ps)

end_on_last : (f : ItemData → ItemData) (end : ℕ) (is : List ItemData) → ((i : ItemData) → span_of (f i) ≡ span_of i) → end_from end (on_last f is) ≡ end_from end is
end_on_last f end [] same = refl
end_on_last f end (i ∷ []) same = ap (λ (s : Span). max end (end_of s)) (same i)
end_on_last f end (i ∷ j ∷ is) same = end_on_last f (max end (end_of (span_of i))) (j ∷ is) same

detail_same_items : (d : Detail) (is js : List ItemData) → is ≡ on_last (change_item d) js → SameItems is js
detail_same_items d is js e = record {
  names = ap item_names e ∙ map_on_last (λ (i : ItemData). i.name) (change_item d) js (same_name d);
  ends = ap (end_from 0) e ∙ end_on_last (change_item d) 0 js (same_span d);
  ended = ap (list_any is_open_ended) e ∙ any_on_last is_open_ended (change_item d) js (λ i. ap (λ (s : Span). int_le s.size (pos 0)) (same_span d i));
  filled = ap (list_any is_to_the_end) e ∙ any_on_last is_to_the_end (change_item d) js (λ i. ap (λ (s : Span). int_eq s.size (pos 0)) (same_span d i));
}

detail_same : (d : Detail) (ps qs : List Drafted) → ps ≡ on_last (add_detail d) qs → SamePackets ps qs
detail_same d ps qs e = record {
  telemetry = ap (names_of Telemetry) e ∙ names_on_last Telemetry (add_detail d) qs (λ p. refl);
  commands = ap (names_of Command) e ∙ names_on_last Command (add_detail d) qs (λ p. refl);
  count = ap count_items e ∙ count_on_last (add_detail d) qs (λ p. length_on_last (change_item d) p.packet.items);
  items = detail_same_items d (open_items ps) (open_items qs) (ap open_items e ∙ detail_open d qs);
}

detail_states : (d : Detail) (o : Option ItemData) → state_names (option_map (change_item d) o) ≡ state_names o ++ taken_name (is_some o) (state_name d)
detail_states d None = refl
detail_states (detail.State s) (Some i) = map-append (λ (t : StateDef). t.name) i.states (s ∷ [])
detail_states (detail.Limits l) (Some i) = sym (append-nil (map (λ (t : StateDef). t.name) i.states))
detail_states (detail.Poly coefficients) (Some i) = sym (append-nil (map (λ (t : StateDef). t.name) i.states))
detail_states (detail.Segment s) (Some i) = sym (append-nil (map (λ (t : StateDef). t.name) i.states))
detail_states (detail.Units full short) (Some i) = sym (append-nil (map (λ (t : StateDef). t.name) i.states))
detail_states (detail.Format text) (Some i) = sym (append-nil (map (λ (t : StateDef). t.name) i.states))
detail_states (detail.Overflow o) (Some i) = sym (append-nil (map (λ (t : StateDef). t.name) i.states))
detail_states detail.Required (Some i) = sym (append-nil (map (λ (t : StateDef). t.name) i.states))

-- one more set, where it is no other one and there is room
more_sets : (sets : List (List ℕ)) (set : List ℕ) (b : Bool) → list_any (is_same set) sets ≡ b → nat_le 64 (length sets) && not b ≡ false → IsDistinct is_same sets → length sets ≤ 64
    → IsDistinct is_same (cond b sets (sets ++ set ∷ [])) × (length (cond b sets (sets ++ set ∷ [])) ≤ 64)
more_sets sets set true e few distinct count = (distinct, count)
more_sets sets set false e few distinct count =
    let room : nat_le 64 (length sets) ≡ false = and_one (nat_le 64 (length sets)) few in
    let less : length sets ≤ 63 = omega (arith, leb-false 64 (length sets) room) in
    (IsDistinct-push nat_list_eq_equiv sets set distinct e, omega (arith, length-append sets (set ∷ []), less)) where
      and_one : (b : Bool) → b && true ≡ false → b ≡ false
      and_one true e = e
      and_one false e = e

sets_placed : (d : Detail) (packets : List Drafted) (sets : List (List ℕ)) → is_too_many packets sets (line.Detail d) ≡ false → IsDistinct is_same sets → length sets ≤ 64
    → IsDistinct is_same (place_set (line.Detail d) sets) × (length (place_set (line.Detail d) sets) ≤ 64)
sets_placed (detail.State s) packets sets few distinct count = (distinct, count)
sets_placed (detail.Limits l) packets sets few distinct count = more_sets sets l.set (list_any (is_same l.set) sets) refl few distinct count
sets_placed (detail.Poly coefficients) packets sets few distinct count = (distinct, count)
sets_placed (detail.Segment s) packets sets few distinct count = (distinct, count)
sets_placed (detail.Units full short) packets sets few distinct count = (distinct, count)
sets_placed (detail.Format text) packets sets few distinct count = (distinct, count)
sets_placed (detail.Overflow o) packets sets few distinct count = (distinct, count)
sets_placed detail.Required packets sets few distinct count = (distinct, count)

-- the first set stays the first
begins_more : (sets : List (List ℕ)) (set : List ℕ) (b : Bool) → begins_with_set default_set sets ≡ true → begins_with_set default_set (cond b sets (sets ++ set ∷ [])) ≡ true
begins_more [] set b e = absurd cc
begins_more (s ∷ sets) set true e = e
begins_more (s ∷ sets) set false e = e

first_placed : (d : Detail) (sets : List (List ℕ)) → begins_with_set default_set sets ≡ true → begins_with_set default_set (place_set (line.Detail d) sets) ≡ true
first_placed (detail.State s) sets e = e
first_placed (detail.Limits l) sets e = begins_more sets l.set (list_any (is_same l.set) sets) e
first_placed (detail.Poly coefficients) sets e = e
first_placed (detail.Segment s) sets e = e
first_placed (detail.Units full short) sets e = e
first_placed (detail.Format text) sets e = e
first_placed (detail.Overflow o) sets e = e
first_placed detail.Required sets e = e

pub detail_kept : (old new : Draft) (d : Detail) → IsKept old → place_cause old.packets.items old.set_names.items (line.Detail d) ≡ None → suits (open_kind (opened old.packets.items)) (line.Detail d) ≡ true → SameDraft new old
    → new.packets.items ≡ on_last (add_detail d) old.packets.items
    → Knows (slice_cmp nat_cmp) new.states (state_names (open_item old.packets.items) ++ taken_name (is_some (open_item old.packets.items)) (state_name d))
    → Knows (slice_cmp nat_cmp) new.sets new.set_names.items → new.set_names.items ≡ place_set (line.Detail d) old.set_names.items → IsKept new
detail_kept old new d h none suited same placed states sets names =
    let packets : SamePackets new.packets.items old.packets.items = detail_same d new.packets.items old.packets.items placed in
    let item : open_item new.packets.items ≡ option_map (change_item d) (open_item old.packets.items) =
    ap last_of (ap open_items placed ∙ detail_open d old.packets.items) ∙ last_on_last (change_item d) (open_items old.packets.items) in
    let fine : IsDistinct is_same (place_set (line.Detail d) old.set_names.items) × (length (place_set (line.Detail d) old.set_names.items) ≤ 64) =
    sets_placed d old.packets.items old.set_names.items (clean old.packets.items old.set_names.items (line.Detail d) none).few h.sound.distinct_sets h.sound.few_sets in
    changed_kept old new h same packets
    (subst (λ (ns : List (List ℕ)). Knows (slice_cmp nat_cmp) new.states ns) (sym (ap state_names item ∙ detail_states d (open_item old.packets.items))) states)
    sets
    (sound_kept new.packets.items old.packets.items old.set_names.items new.set_names.items packets
    (same_kinds (place_set (line.Detail d) old.set_names.items) new.set_names.items new.packets.items (on_last (add_detail d) old.packets.items) names placed
    (kinds_detail old.set_names.items old.packets.items d suited h.sound.kinds))
    (ap (begins_with_set default_set) names ∙ first_placed d old.set_names.items h.sound.first_set) (subst (λ (ns : List (List ℕ)). IsDistinct is_same ns) (sym names) fine.0) (subst (λ (ns : List (List ℕ)). length ns ≤ 64) (sym names) fine.1) h.sound)
