-- Bytes outside a field's own are as they were where a number was written into it.
use Rattle.std.proofs.Common.{◌≡◌, ℕ, ◌+◌, ◌-◌, ◌*◌, ◌/◌, ◌%◌, ◌≤◌, ◌<◌, ◌⊎◌, inl, inr, List, [], ◌∷◌, length, take, drop, refl, sym, ◌∙◌, ap, arith}
use Rattle.std.specs.Prelude.{slice_index}
use Rattle.std.specs.Int.{bit_at}
use Rattle.std.specs.Int.Digits.{number_from_digits}
use Rattle.std.proofs.lemmas.List.{ext_get_or, get_or-drop, get_or-take, length-drop, length-take-le}
use Rattle.cts_bits.specs.Bits.{bits_of, byte_bits}
use Rattle.cts_bits.specs.Fields.{bit_place_at}
use Rattle.cts_bits.specs.Places.{span, IsBeforeStart}
use Rattle.cts_bits.proofs.BitLists.{get_or-bits_of}
use Rattle.cts_bits.proofs.FieldBits.{bit_place_within}
use Rattle.cts_bits.proofs.Runs.{span_le_reach}
use Rattle.cts_def.specs.Starts.{PlaceData}
use Rattle.cts_framing.specs.Heads.{AreBytes}
use Rattle.cts_encode.specs.ReadBack.{field_begin}
use Rattle.cts_framing.specs.Rows.{reach}
use Rattle.cts_encode.specs.Spellings.{HasField}

byte_is : (b : ℕ) → b < 256 → number_from_digits 2 (byte_bits b) ≡ b
byte_is b h = omega arith

same_byte : (a b : ℕ) → a < 256 → b < 256 → ((r : ℕ) → r < 8 → bit_at a (7 - r) ≡ bit_at b (7 - r)) → a ≡ b
same_byte a b ha hb e =
    let bits : byte_bits a ≡ byte_bits b = λ i. e 0 (omega arith) i ∷ e 1 (omega arith) i ∷ e 2 (omega arith) i ∷ e 3 (omega arith) i ∷ e 4 (omega arith) i ∷ e 5 (omega arith) i ∷ e 6 (omega arith) i ∷ e 7 (omega arith) i ∷ [] in
    sym (byte_is a ha) ∙ (ap (number_from_digits 2) bits ∙ byte_is b hb)

-- the rules of a place
pub record IsPlace (p : PlaceData) : Type 0 where
  pub some : 1 ≤ p.bits
  pub after : IsBeforeStart p.order p.offset p.bits → ⊥

module _ (p : PlaceData) (n : ℕ) (old new : List ℕ) (place : IsPlace p) (f : HasField p n old new) (ob : AreBytes old) (nb : AreBytes new) where
  low : span p.offset p.bits ≤ reach p
  low = span_le_reach p.order p.offset p.bits place.some place.after

  outside : (i : ℕ) → (i < field_begin p) ⊎ (reach p ≤ i) → slice_index new i ≡ slice_index old i
  outside i o = same_byte (slice_index new i) (slice_index old i) (nb i) (ob i) (λ r h.
      let k : ℕ = 8 * i + r in
      let byte : k / 8 ≡ i = omega (arith, h) in
      let place_in : k % 8 ≡ r = omega (arith, h) in
      let none : (j : ℕ) → j < p.bits → k ≡ bit_place_at p.order p.offset p.bits j → ⊥ = λ j l e.
      let w = bit_place_within p.order p.offset p.bits j place.some low l in
      elim o [
        | inl before ↦ omega (arith, before, w.0, e, h)
        | inr past ↦ omega (arith, past, w.1, e, h)
      ] in
      let now : slice_index (bits_of new) k ≡ bit_at (slice_index new i) (7 - r) = get_or-bits_of new k ∙ rw (byte, place_in) refl in
      let was : slice_index (bits_of old) k ≡ bit_at (slice_index old i) (7 - r) = get_or-bits_of old k ∙ rw (byte, place_in) refl in
      sym now ∙ (f.others k none ∙ was))

  pub same_front_bytes : (m : ℕ) → m ≤ field_begin p → m ≤ length old → take m new ≡ take m old
  same_front_bytes m h l =
      let len = f.len in
      let nl : length (take m new) ≡ m = length-take-le m new (omega (arith, len, l)) in
      let ol : length (take m old) ≡ m = length-take-le m old l in
      ext_get_or 0 (take m new) (take m old) (omega arith) (λ i k.
      let lt : i < m = omega (arith, nl, k) in
      get_or-take m new i 0 lt ∙ (outside i (inl (omega (arith, lt, h))) ∙ sym (get_or-take m old i 0 lt)))

  pub same_back_bytes : (m : ℕ) → reach p ≤ m → drop m new ≡ drop m old
  same_back_bytes m h =
      let len = f.len in
      let nl = length-drop m new in
      let ol = length-drop m old in
      ext_get_or 0 (drop m new) (drop m old) (omega arith) (λ i k.
      get_or-drop m new i 0 ∙ (outside (m + i) (inr (omega (arith, h))) ∙ sym (get_or-drop m old i 0)))
