-- Two's complement of n bits.
use Rattle.std.proofs.Common.{ℕ, pos, ◌≡◌, ◌+◌, ◌-◌, ◌/◌, ◌^◌, ◌<◌, ◌≤◌, ◌-ℤ◌, refl, sym, ◌∙◌, arith, inl, inr}
use Rattle.std.proofs.lemmas.Bool.{cases_lt, le-ltb, lt-ltb}
use Rattle.std.proofs.lemmas.Int.{ints}
use Rattle.std.proofs.lemmas.Nat.{pow_pos}
use Rattle.std.proofs.lemmas.Nat.Bits.{ones_shr}
use Rattle.cts_bits.specs.Bits.{twos_complement}

-- `MAX` cut to n bits
pub ones_are : (n : ℕ) → 1 ≤ n → n ≤ 64 → 18446744073709551615 / 2 ^ (64 - n) + 1 ≡ 2 ^ n
ones_are n some most =
    let shr = ones_shr 64 (64 - n) (omega arith) in
    let back : 64 - (64 - n) ≡ n = omega arith in
    let above = pow_pos n in
    rw (shr, back) (omega arith)

twos_complement_high : (n x : ℕ) → 2 ^ (n - 1) ≤ x → twos_complement n x ≡ pos x -ℤ pos (2 ^ n)
twos_complement_high n x h = rw (le-ltb x (2 ^ (n - 1)) h) refl

twos_complement_low : (n x : ℕ) → x < 2 ^ (n - 1) → twos_complement n x ≡ pos x
twos_complement_low n x h = rw (lt-ltb x (2 ^ (n - 1)) h) refl

-- numbers of n bits that spell one signed number are the same
pub twos_complement-same : (n x y : ℕ) → x < 2 ^ n → y < 2 ^ n → twos_complement n x ≡ twos_complement n y → x ≡ y
twos_complement-same n x y sx sy e =
    elim (cases_lt x (2 ^ (n - 1))) [
      | inl lx ↦
          let ex = twos_complement_low n x lx in
          elim (cases_lt y (2 ^ (n - 1))) [
            | inl ly ↦
                let same : pos x ≡ pos y = sym ex ∙ e ∙ twos_complement_low n y ly in
                omega (arith, ints)
            | inr hy ↦
                let same : pos x ≡ pos y -ℤ pos (2 ^ n) = sym ex ∙ e ∙ twos_complement_high n y hy in
                omega (arith, ints)
          ]
      | inr hx ↦
          let ex = twos_complement_high n x hx in
          elim (cases_lt y (2 ^ (n - 1))) [
            | inl ly ↦
                let same : pos x -ℤ pos (2 ^ n) ≡ pos y = sym ex ∙ e ∙ twos_complement_low n y ly in
                omega (arith, ints)
            | inr hy ↦
                let same : pos x -ℤ pos (2 ^ n) ≡ pos y -ℤ pos (2 ^ n) = sym ex ∙ e ∙ twos_complement_high n y hy in
                omega (arith, ints)
          ]
    ]
