-- The value of a field and the other bits leave no choice for the bytes.
use Rattle.std.proofs.Common.{ℕ, zero, suc, ◌≡◌, ◌<◌, ◌≤◌, ◌⊎◌, List, length, get_or, sym, ap, ◌∙◌, arith, inl, inr}
use Rattle.std.proofs.lemmas.Bool.{cases_eq}
use Rattle.std.proofs.lemmas.List.{ext_get_or}
use Rattle.std.proofs.lemmas.Nat.Bits.{bit_at-lt}
use Rattle.std.specs.Int.Digits.{number_from_digits, AllBelowBase}
use Rattle.cts_bits.specs.declared.place.Place.{Place}
use Rattle.cts_bits.specs.Bits.{bits_of}
use Rattle.cts_bits.specs.Fields.{KeepsOtherBits, bit_place, field, reach}
use Rattle.cts_bits.proofs.BitLists.{get_or-bits_of, length-bits_of, number-bits_of}
use Rattle.cts_bits.proofs.Digits.{below_base, same_digits}
use Rattle.cts_bits.proofs.FieldBits.{bits_at, field_by_bits, get_or-bits_at, length-bits_at}

-- whether k is among the first n places
among : (place : ℕ → ℕ) (n k : ℕ) → ((j : ℕ) × (j < n) × (k ≡ place j)) ⊎ ((j : ℕ) → j < n → k ≡ place j → ⊥)
among place zero k = inr (λ j lt e. omega arith)
among place (suc n) k = elim (cases_eq k (place n)) [
  | inl e ↦ inl (n, omega arith, e)
  | inr ne ↦ elim (among place n k) [
    | inl found ↦ inl (found.0, omega (arith, found.1), found.2)
    | inr none ↦ inr (λ j lt e. elim (cases_eq j n) [
      | inl last ↦ ne (e ∙ ap place last)
      | inr before ↦ none j (omega arith) e
    ])
  ]
]

bits_at-below : (place : ℕ → ℕ) (n : ℕ) (bytes : List ℕ) → AllBelowBase 2 (bits_at place n bytes)
bits_at-below place n bytes =
    below_base 2 (bits_at place n bytes) (λ j h.
    let lt : j < n = omega (arith, length-bits_at place n bytes) in
    rw (get_or-bits_at place n bytes j lt, get_or-bits_of bytes (place j)) (bit_at-lt _ _))

-- every bit of the two is the same
same_bits : (p : Place) (old one other : List ℕ) → reach p ≤ length old → KeepsOtherBits p old one → KeepsOtherBits p old other
    → field p one ≡ field p other → (k : ℕ) → get_or (bits_of one) k 0 ≡ get_or (bits_of other) k 0
same_bits p old one other fits a b e k =
    let place = bit_place p in
    let la = a.len in
    let lb = b.len in
    let l1 = length-bits_at place p.bits one in
    let l2 = length-bits_at place p.bits other in
    let spelled : number_from_digits 2 (bits_at place p.bits one) ≡ number_from_digits 2 (bits_at place p.bits other) =
    sym (field_by_bits p.order p.offset p.bits one p.some_bits p.after_start (omega arith)) ∙ e
    ∙ field_by_bits p.order p.offset p.bits other p.some_bits p.after_start (omega arith) in
    let same = same_digits 2 (bits_at place p.bits one) (bits_at place p.bits other) (bits_at-below place p.bits one) (bits_at-below place p.bits other) (omega arith) spelled in
    elim (among place p.bits k) [
      | inl at ↦
          ap (λ (x : ℕ). get_or (bits_of one) x 0) at.2
          ∙ sym (get_or-bits_at place p.bits one at.0 at.1)
          ∙ ap (λ (x : List ℕ). get_or x at.0 0) same
          ∙ get_or-bits_at place p.bits other at.0 at.1
          ∙ ap (λ (x : ℕ). get_or (bits_of other) x 0) (sym at.2)
      | inr none ↦
          a.others k (λ f. none f.0 f.1 f.2) ∙ sym (b.others k (λ f. none f.0 f.1 f.2))
    ]

-- the two are the same
pub one_outcome : (p : Place) (old one other : List ℕ) → reach p ≤ length old → KeepsOtherBits p old one → KeepsOtherBits p old other
    → field p one ≡ field p other → ((i : ℕ) → get_or one i 0 < 256) → ((i : ℕ) → get_or other i 0 < 256) → one ≡ other
one_outcome p old one other fits a b e bytes others =
    let la = a.len in
    let lb = b.len in
    let l1 = length-bits_of one in
    let l2 = length-bits_of other in
    let h1 = below_base 256 one (λ i lt. bytes i) in
    let h2 = below_base 256 other (λ i lt. others i) in
    let bits : bits_of one ≡ bits_of other = ext_get_or 0 (bits_of one) (bits_of other) (omega arith) (λ k lt. same_bits p old one other fits a b e k) in
    let number : number_from_digits 256 one ≡ number_from_digits 256 other =
    sym (number-bits_of one h1) ∙ ap (number_from_digits 2) bits ∙ number-bits_of other h2 in
    same_digits 256 one other h1 h2 (omega arith) number
