-- What is written after the byte from which an item's offset counts.
use Rattle.std.proofs.Common.{◌≡◌, ℕ, ℤ, pos, ◌+◌, ◌-◌, ◌/◌, ◌≤◌, ◌<◌, Bool, true, false, List, ◌++◌, length, take, drop, get_or, refl, sym, ap, ◌∙◌, subst, arith}
use Rattle.std.specs.Prelude.{unsigned_abs}
use Rattle.std.specs.Int.{is_negative}
use Rattle.std.specs.Ordering.{int_eq}
use Rattle.std.proofs.lemmas.List.{append-nil, append_assoc, drop_all, get_or-append_right, length-drop, length-take-le, take-append-drop, take_rest}
use borrow.Rule.Slice.PartMut.{put_mid}
use Rattle.cts_bits.specs.declared.place.Place.{Place}
use Rattle.cts_bits.specs.Fields.{KeepsOtherBits, reach}
use Rattle.cts_bits.proofs.Writes.{part_bytes}
use Rattle.cts_def.specs.declared.item_kind.Preset.TheVariants.{Whole, Raw}
use Rattle.cts_def.specs.Beginnings.{number_at}
use Rattle.cts_def.specs.Items.{ItemData, is_to_the_end}
use Rattle.cts_def.specs.Spans.{is_signed}
use Rattle.cts_def.specs.Starts.{place_data}
use Rattle.cts_cmd.specs.Builds.{AreBytes, Writes, WritesBytes, place_of}
use Rattle.cts_cmd.specs.Injects.{WritesFrom, base, from_base}
use Rattle.cts_cmd.proofs.Behind.{base_within, kind_after, size_after}
use Rattle.cts_cmd.proofs.Written.{writes_number}

-- what stands from a byte on is written anew
put_rest : (at : ℕ) (old part : List ℕ) → put_mid at (length old - at) old part ≡ take at old ++ part
put_rest at old part =
    let long = length-drop at old in
    ap (λ (x : List ℕ). take at old ++ (part ++ x)) (drop_all (length old - at) (drop at old) (omega (arith, long))) ∙ ap (λ (x : List ℕ). take at old ++ x) (append-nil part)

pub number_from : (i : ItemData) (z : ℤ) (at : ℕ) (p : Place) (signed : Bool) (old part : List ℕ) → at ≡ base (length old) i → at ≤ length old → place_data p ≡ place_of (from_base i) → signed ≡ is_signed i.kind
    → at + reach p ≤ length old → number_at (place_data p) signed part ≡ z → KeepsOtherBits p (take (length old - at) (drop at old)) part → ((k : ℕ) → get_or (put_mid at (length old - at) old part) k 0 < 256)
    → WritesFrom i (Whole z) old (put_mid at (length old - at) old part)
number_from i z at p signed old part is le there same fits value others bytes =
    let long = length-drop at old in
    let within : reach p ≤ length (drop at old) = omega (arith, fits, long) in
    let sign : signed ≡ is_signed (from_base i).kind = same ∙ ap is_signed (sym (kind_after i (is_negative i.offset) refl)) in
    let kept = subst (λ (x : List ℕ). KeepsOtherBits p x part) (take_rest old at) others in
    let w : Writes (from_base i) (Whole z) (drop at old) part = writes_number (from_base i) z p signed (drop at old) part there sign within value kept (part_bytes at (length old - at) old part bytes le) in
    subst (λ (n : ℕ). (x : List ℕ) × Writes (from_base i) (Whole z) (drop n old) x × (put_mid at (length old - at) old part ≡ take n old ++ x)) is (part, w, put_rest at old part)

pub text_from : (i : ItemData) (bytes : List ℕ) (at begin : ℕ) (old part : List ℕ) → at ≡ base (length old) i → at ≤ length old → begin ≡ unsigned_abs (from_base i).offset / 8 → is_to_the_end i ≡ false
    → (let rest = take (length old - at) (drop at old) in part ≡ take begin rest ++ (bytes ++ drop (begin + length bytes) rest)) → ((k : ℕ) → get_or (put_mid at (length old - at) old part) k 0 < 256)
    → WritesFrom i (Raw bytes) old (put_mid at (length old - at) old part)
text_from i bytes at begin old part is le first own put fit =
    let end : is_to_the_end (from_base i) ≡ false = ap (λ (z : ℤ). int_eq z (pos 0)) (size_after i (is_negative i.offset) refl) ∙ own in
    let there : part ≡ take begin (drop at old) ++ (bytes ++ drop (begin + length bytes) (drop at old)) = subst (λ (x : List ℕ). part ≡ take begin x ++ (bytes ++ drop (begin + length bytes) x)) (take_rest old at) put in
    let w : WritesBytes (from_base i) bytes (drop at old) part = rw (end, sym first) there in
    subst (λ (n : ℕ). (x : List ℕ) × Writes (from_base i) (Raw bytes) (drop n old) x × (put_mid at (length old - at) old part ≡ take n old ++ x)) is
    (part, (w, part_bytes at (length old - at) old part fit le), put_rest at old part)

tail_bytes : (at : ℕ) (old part : List ℕ) → at ≤ length old → AreBytes (take at old ++ part) → AreBytes part
tail_bytes at old part le all k =
    let there = get_or-append_right (take at old) part at (at + k) 0 (length-take-le at old le) (omega arith) in
    let place : at + k - at ≡ k = omega arith in
    subst (λ (x : ℕ). x < 256) (there ∙ ap (λ (n : ℕ). get_or part n 0) place) (all (at + k))

pub end_from : (i : ItemData) (bytes old new : List ℕ) → is_to_the_end i ≡ true → new ≡ old ++ bytes → AreBytes new → WritesFrom i (Raw bytes) old new
end_from i bytes old new to is all =
    let at = base (length old) i in
    let end : is_to_the_end (from_base i) ≡ true = ap (λ (z : ℤ). int_eq z (pos 0)) (size_after i (is_negative i.offset) refl) ∙ to in
    let part = drop at old ++ bytes in
    let parts : new ≡ take at old ++ part = is ∙ ap (λ (x : List ℕ). x ++ bytes) (sym (take-append-drop at old)) ∙ append_assoc (take at old) (drop at old) bytes in
    let w : WritesBytes (from_base i) bytes (drop at old) part = rw end refl in
    (part, (w, tail_bytes at old part (base_within (length old) i (is_negative i.offset) refl) (subst AreBytes parts all)), parts)
