-- One more item, and details of the last one, keep the rules of a packet.
use Rattle.std.proofs.Common.{◌≡◌, ℕ, ◌≤◌, max, Bool, true, false, ◌||◌, List, [], ◌∷◌, ◌++◌, map, length, Option, Result, Ok, Err, OnOk, refl, sym, ap, ◌∙◌, subst, arith}
use Rattle.std.specs.Prelude.{nat_le}
use Rattle.std.specs.Result.{result_and}
use Rattle.std.specs.List.{list_any, IsDistinct}
use Rattle.std.proofs.lemmas.Bool.{or_from, leb-false}
use Rattle.std.proofs.lemmas.Cmp.{nat_list_eq_equiv}
use Rattle.std.proofs.lemmas.List.{map-append, length-append}
use Rattle.std.proofs.lemmas.Map.Keys.{IsDistinct-push}
use Rattle.cts_def.specs.Items.{ItemData, is_same, span_of}
use Rattle.cts_def.specs.Packets.{PacketData, IsSoundPacket, received_count, unknown}
use Rattle.cts_def.specs.Spans.{bytes_needed, is_misplaced, is_variable}
use Rattle.cts_def.proofs.Needs.{few_bytes}
use Rattle.cts_defstatement.specs.declared.details.Detail.{Detail}
use Rattle.cts_defread.specs.declared.drafted.Drafted.{Drafted}
use Rattle.cts_defread.specs.Causes.{has_item, drafted_items, open_item}
use Rattle.cts_defread.specs.Sound.{Fits, FitsLast}
use Rattle.cts_defread.specs.Steps.{change_item, add_detail}
use Rattle.cts_defread.proofs.Lists.{map_on_last, any_on_last, any_more, any_map, length_on_last}
use Rattle.cts_defread.proofs.More.{same_name, same_span, length_on_last_item, variable_on_last_item, length_more, variable_more}
use Rattle.cts_words.specs.Blocks.{last_of, on_last}
use Rattle.cts_words.proofs.Blocks.{last_snoc, put_back}

pub new_sound : (target name : List ℕ) (items : List ItemData) (hazardous : Bool) → items ≡ [] → is_same target unknown ≡ false
    → IsSoundPacket (record { target = target; name = name; items = items; length = 0; variable = false; hazardous = hazardous })
unfolding IsDistinct
new_sound target name items hazardous e known =
    let P : List ItemData → Type 0 = λ is. IsSoundPacket (record { target = target; name = name; items = is; length = 0; variable = false; hazardous = hazardous }) in
    let none : P [] = record { least = refl; varies = refl; short = omega arith; few = omega arith; distinct = tt; known_target = known; no_counts = refl } in
    subst P (sym e) none

-- ---- one more item

pub more_sound : (p : PacketData) (i : ItemData) → IsSoundPacket p → is_misplaced (span_of i) ≡ false → nat_le 4096 (length p.items) ≡ false → is_same i.name received_count ≡ false → has_item p.items i.name ≡ false
    → IsSoundPacket (record p { items = p.items ++ i ∷ []; length = max p.length (bytes_needed (span_of i)); variable = p.variable || is_variable (span_of i) })
more_sound p i h placed few other single =
    let count : length p.items ≤ 4095 = omega (arith, leb-false 4096 (length p.items) few) in
    record {
      least = ap (λ (n : ℕ). max n (bytes_needed (span_of i))) h.least ∙ sym (length_more p.items i);
      varies = ap (λ (b : Bool). b || is_variable (span_of i)) h.varies ∙ sym (variable_more p.items i);
      short = let more = few_bytes (span_of i) placed in omega (arith, h.short);
      few = omega (arith, length-append p.items (i ∷ []), count);
      distinct =
          subst (λ (ns : List (List ℕ)). IsDistinct is_same ns) (sym (map-append (λ (j : ItemData). j.name) p.items (i ∷ [])))
          (IsDistinct-push nat_list_eq_equiv (map (λ (j : ItemData). j.name) p.items) i.name h.distinct (any_map (is_same i.name) (λ (j : ItemData). j.name) p.items ∙ single));
      known_target = h.known_target;
      no_counts =
          any_more (λ (j : ItemData). is_same j.name received_count) p.items i
          ∙ or_from (list_any (λ (j : ItemData). is_same j.name received_count) p.items) (is_same i.name received_count) h.no_counts other;
    }

pub pushed_sound : (inside p : PacketData) (i : ItemData) (items : List ItemData) (length' : ℕ) (variable : Bool) → inside ≡ p → IsSoundPacket inside → is_misplaced (span_of i) ≡ false
    → nat_le 4096 (length p.items) ≡ false → is_same i.name received_count ≡ false → has_item p.items i.name ≡ false
    → items ≡ inside.items ++ i ∷ [] → length' ≡ max inside.length (bytes_needed (span_of i)) → variable ≡ inside.variable || is_variable (span_of i)
    → IsSoundPacket (record inside { items = items; length = length'; variable = variable })
pushed_sound inside p i items length' variable same h placed few other single pushed longer varies =
    let P : PacketData → Type 0 = λ q. (nat_le 4096 (length q.items) ≡ false) × (has_item q.items i.name ≡ false) in
    let here : P inside = subst P (sym same) (few, single) in
    let A : List ItemData → Type 0 = λ is. IsSoundPacket (record inside { items = is; length = length'; variable = variable }) in
    let B : ℕ → Type 0 = λ n. IsSoundPacket (record inside { items = inside.items ++ i ∷ []; length = n; variable = variable }) in
    let C : Bool → Type 0 = λ b. IsSoundPacket (record inside { items = inside.items ++ i ∷ []; length = max inside.length (bytes_needed (span_of i)); variable = b }) in
    subst A (sym pushed) (subst B (sym longer) (subst C (sym varies) (more_sound inside i h placed here.0 other here.1)))

-- ---- details of the last item

pub detail_sound : (d : Detail) (p : PacketData) (items : List ItemData) → IsSoundPacket p → items ≡ on_last (change_item d) p.items → IsSoundPacket (record p { items = items })
detail_sound d p items h changed =
    let names : map (λ (j : ItemData). j.name) (on_last (change_item d) p.items) ≡ map (λ (j : ItemData). j.name) p.items = map_on_last (λ (j : ItemData). j.name) (change_item d) p.items (same_name d) in
    let P : List ItemData → Type 0 = λ is. IsSoundPacket (record p { items = is }) in
    let sound : P (on_last (change_item d) p.items) =
    record {
      least = h.least ∙ sym (length_on_last_item (change_item d) p.items (same_span d));
      varies = h.varies ∙ sym (variable_on_last_item (change_item d) p.items (same_span d));
      short = h.short;
      few = omega (arith, length_on_last (change_item d) p.items, h.few);
      distinct = subst (λ (ns : List (List ℕ)). IsDistinct is_same ns) (sym names) h.distinct;
      known_target = h.known_target;
      no_counts =
          any_on_last (λ (j : ItemData). is_same j.name received_count) (change_item d) p.items (λ i. ap (λ (n : List ℕ). is_same n received_count) (same_name d i))
          ∙ h.no_counts;
    } in
    subst P (sym changed) sound

-- ---- the last one of what was popped

pub last_fits : (old front : List ItemData) (i : ItemData) (d : Detail) → old ≡ front ++ i ∷ [] → FitsLast (last_of old) d → Fits i d
last_fits old front i d popped h = subst (λ (o : Option ItemData). FitsLast o d) (ap last_of popped ∙ last_snoc front i) h

last_changed : (old front new : List ItemData) (i changed : ItemData) (d : Detail) → old ≡ front ++ i ∷ [] → new ≡ front ++ changed ∷ [] → changed ≡ change_item d i
    → new ≡ on_last (change_item d) old
last_changed old front new i changed d popped pushed same =
    put_back (change_item d) old front new i popped (pushed ∙ ap (λ (j : ItemData). front ++ j ∷ []) same)

-- the same where it is put back also after a change that found no memory
pub last_put_back : {X Y E : Type 0} (old front new : List ItemData) (i changed : ItemData) (d : Detail) (pushed : Result X E) (r both : Result Y E) → both ≡ result_and pushed r → old ≡ front ++ i ∷ []
    → OnOk pushed (new ≡ front ++ changed ∷ []) → OnOk r (changed ≡ change_item d i) → OnOk both (new ≡ on_last (change_item d) old)
last_put_back {X} {Y} {E} old front new i changed d pushed r both is popped put made =
    subst (λ (b : Result Y E). OnOk b (new ≡ on_last (change_item d) old)) (sym is) (of_both pushed r put made)
  where
    of_both : (p : Result X E) (q : Result Y E) → OnOk p (new ≡ front ++ changed ∷ []) → OnOk q (changed ≡ change_item d i) → OnOk (result_and p q) (new ≡ on_last (change_item d) old)
    of_both (Ok x) (Ok y) put made = last_changed old front new i changed d popped put made
    of_both (Ok x) (Err e) put made = tt
    of_both (Err e) q put made = tt

pub open_last : (old front : List Drafted) (drafted : Drafted) → old ≡ front ++ drafted ∷ [] → open_item old ≡ last_of drafted.packet.items
open_last old front drafted popped = ap (λ (o : Option Drafted). last_of (drafted_items o)) (ap last_of popped ∙ last_snoc front drafted)

pub open_fits : (old front : List Drafted) (drafted : Drafted) (d : Detail) → old ≡ front ++ drafted ∷ [] → FitsLast (open_item old) d → FitsLast (last_of drafted.packet.items) d
open_fits old front drafted d popped h = subst (λ (o : Option ItemData). FitsLast o d) (open_last old front drafted popped) h

pub open_changed : (old front new : List Drafted) (drafted : Drafted) (packet : PacketData) (d : Detail) → old ≡ front ++ drafted ∷ []
    → new ≡ front ++ record drafted { packet = packet } ∷ [] → packet ≡ record drafted.packet { items = on_last (change_item d) drafted.packet.items }
    → new ≡ on_last (add_detail d) old
open_changed old front new drafted packet d popped pushed changed =
    put_back (add_detail d) old front new drafted popped (pushed ∙ ap (λ (p : PacketData). front ++ record drafted { packet = p } ∷ []) changed)
