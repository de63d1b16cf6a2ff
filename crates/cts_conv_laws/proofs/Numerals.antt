-- The digits of a number are read back as the number, and no others are.
use Rattle.std.proofs.Common.{◌≡◌, ℕ, zero, suc, ◌+◌, ◌*◌, ◌/◌, ◌%◌, ◌^◌, ◌≤◌, ◌<◌, Bool, true, false, List, [], ◌∷◌, ◌++◌, length, map, get_or, refl, sym, ap, ◌∙◌, subst, arith, inl, inr, append_assoc}
use Rattle.std.specs.Prelude.{◌==◌}
use Rattle.std.specs.Char.{digit_value}
use Rattle.std.specs.Fmt.{digit_glyph, digits_onto}
use Rattle.std.specs.Int.Digits.{AllBelowBase, number_from_digits}
use Rattle.std.specs.List.{list_all}
use Rattle.std.specs.Str.Parse.{digits_value}
use Rattle.std.proofs.Math.Nat.{div-eq_of_lt, div-lt_iff_lt-mul, div-add-mod', mod-eq_of_lt, mod-lt, mul-le-mul_right, pow-le-pow_left, pow-le-pow_right, pow-suc, pow-zero}
use Rattle.std.proofs.lemmas.Bool.{and_from, and_parts, cases_lt}
use Rattle.std.proofs.lemmas.Bool.Decides.{nat_tests}
use Rattle.std.proofs.lemmas.Int.Digits.{digits_value_is, digits_value_push, number_lt}
use Rattle.std.proofs.lemmas.List.{append-nil, get_or_append_left, length-map, length_push}
use Rattle.std.proofs.lemmas.Nat.{le-div}
use Rattle.cts_bits.proofs.Digits.{number-cons, same_digits}
use Rattle.cts_conv.specs.Formatting.{digits_in}
use Rattle.cts_conv_laws.specs.Numerals.{DigitsMeanTheirNumber, IsNumeralOf, NoOtherDigitsMeanIt, is_digit_of}

-- ---- one digit

pub glyph_is_digit : (base : ℕ) (upper : Bool) (d : ℕ) → d < base → is_digit_of base upper (digit_glyph upper d) ≡ true
glyph_is_digit base true d h = grind (arith, nat_tests)
glyph_is_digit base false d h = grind (arith, nat_tests)

pub glyph_value : (upper : Bool) (d : ℕ) → d < 16 → digit_value (digit_glyph upper d) ≡ d
glyph_value true d h = grind (arith, nat_tests)
glyph_value false d h = grind (arith, nat_tests)

glyph_zero : (upper : Bool) (d : ℕ) → digit_glyph upper d ≡ 48 → d ≡ 0
glyph_zero true d e = grind (arith, nat_tests)
glyph_zero false d e = grind (arith, nat_tests)

-- a digit is the character of what it is worth
digit_glyph_is : (base : ℕ) (upper : Bool) (c : ℕ) → base ≤ 16 → is_digit_of base upper c ≡ true → c ≡ digit_glyph upper (digit_value c)
digit_glyph_is base true c few h = grind (arith, nat_tests)
digit_glyph_is base false c few h = grind (arith, nat_tests)

digit_below : (base : ℕ) (upper : Bool) (c : ℕ) → base ≤ 16 → is_digit_of base upper c ≡ true → digit_value c < base
digit_below base true c few h = grind (arith, nat_tests)
digit_below base false c few h = grind (arith, nat_tests)

-- ---- digits from the last one on

pub all_push : (p : ℕ → Bool) (xs : List ℕ) (y : ℕ) → list_all p xs ≡ true → p y ≡ true → list_all p (xs ++ (y ∷ [])) ≡ true
all_push p [] y h g = and_from (p y) true g refl
all_push p (x ∷ xs) y h g =
    let parts = and_parts (p x) (list_all p xs) h in
    and_from (p x) (list_all p (xs ++ (y ∷ []))) parts.0 (all_push p xs y parts.1 g)

-- a zero alone is worth nothing
zero_alone : (base : ℕ) (ds : List ℕ) → ds ≡ 48 ∷ [] → digits_value base ds ≡ 0
zero_alone base ds e = ap (digits_value base) e ∙ omega arith

one_numeral : (base : ℕ) (upper : Bool) (n : ℕ) → n < base → base ≤ 16 → IsNumeralOf base upper n (digit_glyph upper n ∷ [])
one_numeral base upper n h few =
    let value = glyph_value upper n (omega arith) in
    record {
      some = omega arith;
      digits = and_from (is_digit_of base upper (digit_glyph upper n)) true (glyph_is_digit base upper n h) refl;
      value = omega (arith, value);
      no_leading_zero = λ e. ap (λ (c : ℕ). c ∷ []) e;
    }

more_numeral : (base : ℕ) (upper : Bool) (n : ℕ) (ds : List ℕ) → 2 ≤ base → base ≤ 16 → base ≤ n → IsNumeralOf base upper (n / base) ds
    → IsNumeralOf base upper n (ds ++ digit_glyph upper (n % base) ∷ [])
more_numeral base upper n ds two few big w =
    let g : ℕ = digit_glyph upper (n % base) in
    let low : n % base < base = mod-lt n (omega arith) in
    let some = w.some in
    let whole : digits_value base ds * base + digit_value g ≡ n =
    ap (λ (x : ℕ). x * base + digit_value g) w.value ∙ ap (λ (x : ℕ). n / base * base + x) (glyph_value upper (n % base) (omega arith)) ∙ div-add-mod' n base in
    let left : 1 ≤ n / base = le-div 1 n base (omega arith) (omega arith) in
    record {
      some = omega (arith, length_push ds g);
      digits = all_push (is_digit_of base upper) ds g w.digits (glyph_is_digit base upper (n % base) low);
      value = digits_value_push base ds g ∙ whole;
      no_leading_zero = λ e.
          let first : get_or ds 0 0 ≡ 48 = sym (get_or_append_left ds (g ∷ []) 0 0 some) ∙ e in
          let none = sym w.value ∙ zero_alone base ds (w.no_leading_zero first) in
          absurd (omega (arith, left, none));
    }

-- what is written before some characters, and is the number
pub record IsOnto (base : ℕ) (upper : Bool) (n : ℕ) (acc text : List ℕ) : Type 0 where
  pub front : List ℕ
  pub parts : text ≡ front ++ acc
  pub number : IsNumeralOf base upper n front

last_digit : (k base n : ℕ) (upper : Bool) (acc : List ℕ) → n < base → digits_onto (suc k) base upper n acc ≡ digit_glyph upper n ∷ acc
last_digit k base n upper acc h =
    let none : n / base ≡ 0 = div-eq_of_lt h in
    let all : n % base ≡ n = mod-eq_of_lt h in
    rw (none, all) refl

some_left : (base n : ℕ) → 2 ≤ base → base ≤ n → (n / base == 0) ≡ false
some_left base n two h =
    let one : 1 ≤ n / base = le-div 1 n base (omega arith) (omega arith) in
    grind (arith, nat_tests)

more_digits : (k base n : ℕ) (upper : Bool) (acc : List ℕ) → 2 ≤ base → base ≤ n
    → digits_onto (suc k) base upper n acc ≡ digits_onto k base upper (n / base) (digit_glyph upper (n % base) ∷ acc)
more_digits k base n upper acc two h = rw (some_left base n two h) refl

pub onto : (k base n : ℕ) (upper : Bool) (acc : List ℕ) → 2 ≤ base → base ≤ 16 → n < base ^ suc k → IsOnto base upper n acc (digits_onto (suc k) base upper n acc)
onto zero base n upper acc two few room =
    let one : base ^ 1 ≡ base = pow-suc base 0 ∙ rw (pow-zero base) (omega arith) in
    let small : n < base = omega (arith, one, room) in
    record { front = digit_glyph upper n ∷ []; parts = last_digit zero base n upper acc small; number = one_numeral base upper n small few }
onto (suc k) base n upper acc two few room = elim (cases_lt n base) [
  | inl small ↦ record { front = digit_glyph upper n ∷ []; parts = last_digit (suc k) base n upper acc small; number = one_numeral base upper n small few }
  | inr big ↦
      let g : ℕ = digit_glyph upper (n % base) in
      let less : n / base < base ^ suc k = (div-lt_iff_lt-mul {k = base} {x = n} {y = base ^ suc k} (omega arith)).1 (omega (arith, room, pow-suc base (suc k))) in
      let w = onto k base (n / base) upper (g ∷ acc) two few less in
      record {
        front = w.front ++ g ∷ [];
        parts = more_digits (suc k) base n upper acc two big ∙ w.parts ∙ sym (append_assoc w.front (g ∷ []) acc);
        number = more_numeral base upper n w.front two few big w.number;
      }
]

-- nothing stands after them
pub onto_nothing : (base : ℕ) (upper : Bool) (n : ℕ) (text : List ℕ) → IsOnto base upper n [] text → IsNumeralOf base upper n text
onto_nothing base upper n text w = subst (IsNumeralOf base upper n) (sym (w.parts ∙ append-nil w.front)) w.number

two_powers : (base n k : ℕ) → 2 ≤ base → n < 2 ^ k → n < base ^ k
two_powers base n k two h = let more : 2 ^ k ≤ base ^ k = pow-le-pow_left {n = 2} {m = base} two k in omega (arith, more, h)

pub digits_mean : DigitsMeanTheirNumber
unfolding digits_in
digits_mean base upper n two few small = onto_nothing base upper n (digits_onto 128 base upper n []) (onto 127 base n upper [] two few (two_powers base n 128 two small))

-- ---- no other digits

values_below : (base : ℕ) (upper : Bool) (ds : List ℕ) → base ≤ 16 → list_all (is_digit_of base upper) ds ≡ true → AllBelowBase base (map digit_value ds)
values_below base upper [] few h = tt
values_below base upper (c ∷ ds) few h =
    let parts = and_parts (is_digit_of base upper c) (list_all (is_digit_of base upper) ds) h in
    (digit_below base upper c few parts.0, values_below base upper ds few parts.1)

by_values : (base : ℕ) (upper : Bool) (ds : List ℕ) → base ≤ 16 → list_all (is_digit_of base upper) ds ≡ true → ds ≡ map (digit_glyph upper) (map digit_value ds)
by_values base upper [] few h = refl
by_values base upper (c ∷ ds) few h =
    let parts = and_parts (is_digit_of base upper c) (list_all (is_digit_of base upper) ds) h in
    let first = digit_glyph_is base upper c few parts.0 in
    let rest = by_values base upper ds few parts.1 in
    ap (λ (x : ℕ). x ∷ ds) first ∙ ap (λ (xs : List ℕ). digit_glyph upper (digit_value c) ∷ xs) rest

-- the number that the digits' values spell
spelled : (base : ℕ) (upper : Bool) (n : ℕ) (ds : List ℕ) → IsNumeralOf base upper n ds → number_from_digits base (map digit_value ds) ≡ n
spelled base upper n ds w = sym (digits_value_is base ds) ∙ w.value

some_first : (base : ℕ) (upper : Bool) (c : ℕ) → base ≤ 16 → is_digit_of base upper c ≡ true → (c ≡ 48 → ⊥) → 1 ≤ digit_value c
some_first base upper c few h none = elim (cases_lt 0 (digit_value c)) [
  | inl some ↦ some
  | inr low ↦
      let zero_worth : digit_value c ≡ 0 = omega (arith, low) in
      absurd (none (digit_glyph_is base upper c few h ∙ ap (digit_glyph upper) zero_worth))
]

not_one : (c d : ℕ) (ds : List ℕ) → c ∷ d ∷ ds ≡ 48 ∷ [] → ⊥
not_one c d ds e = let n = ap (λ (x : List ℕ). length x) e in omega (arith, n)

-- a number of some digits is at least the power of its first one
at_least : (base : ℕ) (upper : Bool) (n : ℕ) (ds : List ℕ) (k : ℕ) → base ≤ 16 → IsNumeralOf base upper n ds → length ds ≡ suc (suc k) → base ^ suc k ≤ n
at_least base upper n [] k few w len = absurd (omega (arith, len))
at_least base upper n (c ∷ []) k few w len = absurd (omega (arith, len))
at_least base upper n (c ∷ d ∷ ds) k few w len =
    let parts = and_parts (is_digit_of base upper c) (list_all (is_digit_of base upper) (d ∷ ds)) w.digits in
    let some = some_first base upper c few parts.0 (λ e. not_one c d ds (w.no_leading_zero e)) in
    let rest : List ℕ = map digit_value (d ∷ ds) in
    let many : length rest ≡ suc k = length-map (d ∷ ds) digit_value ∙ omega (arith, len) in
    let whole : digit_value c * base ^ length rest + number_from_digits base rest ≡ n = sym (number-cons base (digit_value c) rest) ∙ spelled base upper n (c ∷ d ∷ ds) w in
    let power : 1 * base ^ length rest ≤ digit_value c * base ^ length rest = mul-le-mul_right {m = 1} {n = digit_value c} (base ^ length rest) some in
    let same : base ^ length rest ≡ base ^ suc k = ap (λ (x : ℕ). base ^ x) many in
    omega (arith, whole, power, same)

below_power : (base : ℕ) (upper : Bool) (n : ℕ) (ds : List ℕ) → base ≤ 16 → IsNumeralOf base upper n ds → n < base ^ length ds
below_power base upper n ds few w =
    let e = spelled base upper n ds w in
    let less = number_lt base (map digit_value ds) (values_below base upper ds few w.digits) in
    let len : base ^ length (map digit_value ds) ≡ base ^ length ds = ap (λ (x : ℕ). base ^ x) (length-map ds digit_value) in
    omega (arith, e, less, len)

no_longer_by : (base : ℕ) (upper : Bool) (n : ℕ) (ds es : List ℕ) (k : ℕ) → 2 ≤ base → base ≤ 16 → IsNumeralOf base upper n ds → IsNumeralOf base upper n es → length es ≡ k → length ds < k → ⊥
no_longer_by base upper n ds es zero two few w v len less = omega (arith, less)
no_longer_by base upper n ds es (suc zero) two few w v len less = let some = w.some in omega (arith, less, some)
no_longer_by base upper n ds es (suc (suc k)) two few w v len less =
    let low = at_least base upper n es k few v len in
    let high = below_power base upper n ds few w in
    let more : base ^ length ds ≤ base ^ suc k = pow-le-pow_right {n = base} (omega arith) {i = length ds} {j = suc k} (omega (arith, less)) in
    omega (arith, low, high, more)

no_longer : (base : ℕ) (upper : Bool) (n : ℕ) (ds es : List ℕ) → 2 ≤ base → base ≤ 16 → IsNumeralOf base upper n ds → IsNumeralOf base upper n es → length es ≤ length ds
no_longer base upper n ds es two few w v = elim (cases_lt (length ds) (length es)) [
  | inl less ↦ absurd (no_longer_by base upper n ds es (length es) two few w v refl less)
  | inr fine ↦ fine
]

pub one_text : (base : ℕ) (upper : Bool) (n : ℕ) (ds es : List ℕ) → 2 ≤ base → base ≤ 16 → IsNumeralOf base upper n ds → IsNumeralOf base upper n es → ds ≡ es
one_text base upper n ds es two few w v =
    let a = no_longer base upper n ds es two few w v in
    let b = no_longer base upper n es ds two few v w in
    let la = length-map ds digit_value in
    let lb = length-map es digit_value in
    let values = same_digits base (map digit_value ds) (map digit_value es) (values_below base upper ds few w.digits) (values_below base upper es few v.digits) (omega (arith, a, b, la, lb))
    (spelled base upper n ds w ∙ sym (spelled base upper n es v)) in
    by_values base upper ds few w.digits ∙ ap (λ (x : List ℕ). map (digit_glyph upper) x) values ∙ sym (by_values base upper es few v.digits)

pub no_other_digits : NoOtherDigitsMeanIt
no_other_digits base upper n text two few small w = one_text base upper n text (digits_in base upper n) two few w (digits_mean base upper n two few small)
