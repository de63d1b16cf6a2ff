-- The bytes that a field touches, and its run of bits among them.
use Rattle.std.proofs.Common.{ℕ, ◌≡◌, ◌+◌, ◌-◌, ◌*◌, ◌/◌, ◌%◌, ◌^◌, ◌<◌, ◌≤◌, true, List, length, take, drop, get_or, refl, sym, ap, ◌∙◌, arith, inl, inr}
use Rattle.std.proofs.lemmas.Bool.{cases_Bool, cases_lt, and_parts, or_cases, eqb-true}
use Rattle.std.proofs.lemmas.Bool.Decides.{nat_tests}
use Rattle.std.specs.Prelude.{nat_lt}
use Rattle.std.proofs.lemmas.List.{drop-drop, drop-take, length-drop, length-take, length-take-le, take-take}
use Rattle.std.proofs.lemmas.Int.Digits.{number_lt}
use Rattle.std.proofs.Math.Nat.{pow-le-pow_right}
use Rattle.std.specs.List.{slice_range}
use Rattle.std.specs.Int.Digits.{number_from_digits}
use Rattle.cts_bits.specs.declared.order.Order.{Order}
use Rattle.cts_bits.specs.declared.order.Order.TheVariants.{Big, Little}
use Rattle.cts_bits.specs.Bits.{bits_of}
use Rattle.cts_bits.specs.Fields.{field_at, laid_out, run_start}
use Rattle.cts_bits.specs.Places.{IsBeforeStart, is_whole, reach_of, span}
use Rattle.cts_bits.specs.Windows.{in_order, number_in, tail_of}
use Rattle.cts_bits.proofs.BitLists.{bits_of-below, bits_of-drop, bits_of-take, length-bits_of, number-bits_of}
use Rattle.cts_bits.proofs.Digits.{below_base-drop, below_base-take, number-run}
use Rattle.cts_bits.proofs.Turns.{in_order-below, length-in_order}

-- the bytes that a field touches, in the buffer's order
abbrev pub window : Order → ℕ → ℕ → List ℕ → List ℕ
window o offset bits bytes = slice_range bytes (reach_of o offset bits - span offset bits) (reach_of o offset bits)

-- a field's bits and those round it fill its bytes
pub filled : (offset bits : ℕ) → 1 ≤ bits → offset % 8 + bits + tail_of offset bits ≡ 8 * span offset bits
filled offset bits some = omega arith

pub span_le : (offset bits : ℕ) → bits ≤ 64 → span offset bits ≤ 9
span_le offset bits most = omega arith

-- whole bytes begin at a byte and are as many as their bits say
whole_bytes : (offset bits : ℕ) → is_whole offset bits ≡ true → (offset % 8 ≡ 0) × (span offset bits ≡ bits / 8)
whole_bytes offset bits e = grind (arith, and_parts, or_cases, eqb-true)

ltb-is : (m n : ℕ) → m < n → nat_lt m n ≡ true
ltb-is m n h = grind (arith, nat_tests)

-- the field begins in the buffer
pub span_le_reach : (o : Order) (offset bits : ℕ) → 1 ≤ bits → (IsBeforeStart o offset bits → ⊥) → span offset bits ≤ reach_of o offset bits
span_le_reach Big offset bits some ok = omega arith
span_le_reach Little offset bits some ok = elim (cases_Bool (is_whole offset bits)) [
  | inl e ↦
      let parts = whole_bytes offset bits e in
      rw e (omega arith)
  | inr e ↦
      elim (cases_lt (offset / 8 + 1) (span offset bits)) [
        | inl before ↦ absurd (ok (rw e (ltb-is (offset / 8 + 1) (span offset bits) before)))
        | inr fine ↦ rw e fine
      ]
]

-- what a little-endian field reads
little_bytes : (offset bits : ℕ) (bytes : List ℕ) → 1 ≤ bits
    → (laid_out Little offset bits bytes ≡ in_order Little (window Little offset bits bytes)) × (run_start Little offset bits ≡ offset % 8)
little_bytes offset bits bytes some = elim (cases_Bool (is_whole offset bits)) [
  | inl e ↦
      let parts = whole_bytes offset bits e in
      let from : offset / 8 + bits / 8 - span offset bits ≡ offset / 8 = omega arith in
      (rw (e, from) refl, rw e (sym parts.0))
  | inr e ↦ (rw e refl, rw e refl)
]

pub length-window : (o : Order) (offset bits : ℕ) (bytes : List ℕ) → span offset bits ≤ reach_of o offset bits → reach_of o offset bits ≤ length bytes
    → length (window o offset bits bytes) ≡ span offset bits
length-window o offset bits bytes front fits =
    let first : ℕ = reach_of o offset bits - span offset bits in
    let rest = length-drop first bytes in
    length-take-le (reach_of o offset bits - first) (drop first bytes) (omega arith) ∙ omega arith

-- a run of bits, in the bytes that it touches
run_within : (a s n m : ℕ) (bits : List ℕ) → s + n ≤ m → take n (drop s (take m (drop a bits))) ≡ take n (drop (a + s) bits)
run_within a s n m bits le =
    let e : m ≡ s + (m - s) = omega arith in
    ap (λ (x : ℕ). take n (drop s (take x (drop a bits)))) e
    ∙ ap (take n) (drop-take s (m - s) (drop a bits))
    ∙ take-take n (m - s) (drop s (drop a bits)) (omega arith)
    ∙ ap (take n) (drop-drop s a bits)

-- the run that is a field, among the bits of the bytes that it touches
pub run_in_window : (o : Order) (offset bits : ℕ) (bytes : List ℕ) → 1 ≤ bits → span offset bits ≤ reach_of o offset bits
    → take bits (drop (run_start o offset bits) (bits_of (laid_out o offset bits bytes)))
    ≡ take bits (drop (offset % 8) (bits_of (in_order o (window o offset bits bytes))))
run_in_window Big offset bits bytes some front =
    let first : ℕ = reach_of Big offset bits - span offset bits in
    let count : reach_of Big offset bits - first ≡ span offset bits = omega arith in
    let fill = filled offset bits some in
    let start : 8 * first + offset % 8 ≡ offset = omega arith in
    let inside : bits_of (window Big offset bits bytes) ≡ take (8 * span offset bits) (drop (8 * first) (bits_of bytes)) =
    bits_of-take (reach_of Big offset bits - first) (drop first bytes) ∙ rw (count, bits_of-drop first bytes) refl in
    sym (ap (λ (x : List ℕ). take bits (drop (offset % 8) x)) inside
    ∙ run_within (8 * first) (offset % 8) bits (8 * span offset bits) (bits_of bytes) (omega arith)
    ∙ ap (λ (x : ℕ). take bits (drop x (bits_of bytes))) start)
run_in_window Little offset bits bytes some front =
    let parts = little_bytes offset bits bytes some in
    rw (parts.1, parts.0) refl

-- a field is the middle of the number in the bytes that it touches
pub field_in_window : (o : Order) (offset bits : ℕ) (bytes : List ℕ) → 1 ≤ bits → (IsBeforeStart o offset bits → ⊥)
    → reach_of o offset bits ≤ length bytes → ((i : ℕ) → get_or (window o offset bits bytes) i 0 < 256)
    → field_at o offset bits bytes ≡ number_in o (window o offset bits bytes) / 2 ^ tail_of offset bits % 2 ^ bits
unfolding field_at number_in
field_in_window o offset bits bytes some ok fits all =
    let front = span_le_reach o offset bits some ok in
    let xs : List ℕ = window o offset bits bytes in
    let len = length-window o offset bits bytes front fits in
    let ordered = length-in_order o xs in
    let many = length-bits_of (in_order o xs) in
    let fill = filled offset bits some in
    ap (number_from_digits 2) (run_in_window o offset bits bytes some front)
    ∙ number-run (offset % 8) bits (tail_of offset bits) (bits_of (in_order o xs)) (bits_of-below (in_order o xs)) (omega arith)
    ∙ rw (number-bits_of (in_order o xs) (in_order-below o xs all)) refl

-- a field of n bits is below 2 ^ n
pub field_at-lt : (o : Order) (offset bits : ℕ) (bytes : List ℕ) → field_at o offset bits bytes < 2 ^ bits
unfolding field_at
field_at-lt o offset bits bytes =
    let rest : List ℕ = drop (run_start o offset bits) (bits_of (laid_out o offset bits bytes)) in
    let below = below_base-take 2 bits rest (below_base-drop 2 (run_start o offset bits) (bits_of (laid_out o offset bits bytes)) (bits_of-below (laid_out o offset bits bytes))) in
    let run = number_lt 2 (take bits rest) below in
    let len = length-take bits rest in
    let top : 2 ^ length (take bits rest) ≤ 2 ^ bits = pow-le-pow_right {n = 2} (omega arith) {i = length (take bits rest)} {j = bits} (omega arith) in
    omega arith
