-- The digits after a point.
use Rattle.std.proofs.Common.{◌≡◌, ℕ, zero, suc, ◌+◌, ◌-◌, ◌*◌, ◌/◌, ◌%◌, ◌^◌, ◌≤◌, ◌<◌, Bool, true, false, not, ◌&&◌, List, [], ◌∷◌, ◌++◌, length, refl, sym, ap, ◌∙◌, arith, unsigned_abs, append_assoc, ℤ, subst}
use Rattle.std.specs.Prelude.{◌==◌}
use Rattle.std.specs.Char.{digit_value}
use Rattle.std.specs.Fmt.{decimal}
use Rattle.std.specs.Int.{is_negative}
use Rattle.std.specs.List.{list_all}
use Rattle.std.specs.Str.Parse.{digits_value}
use Rattle.std.proofs.Math.Arith.{mod-mul}
use Rattle.std.proofs.Math.Nat.{add-mul, div-add-mod', div-le_self, mod-eq_of_lt, mod-lt, mul_assoc, pow-le-pow_right, pow-suc}
use Rattle.std.proofs.lemmas.Bool.{and_from}
use Rattle.std.proofs.lemmas.Bool.Decides.{nat_tests}
use Rattle.std.proofs.lemmas.Int.Digits.{digits_value_push}
use Rattle.std.proofs.lemmas.List.{append-nil}
use Rattle.std.proofs.lemmas.List.Folds.{list_all-append}
use Rattle.cts_base.specs.Prints.{last_digits}
use Rattle.cts_base.proofs.PrintLemmas.{length-last_digits}
use Rattle.cts_def.specs.FormatParts.{FormatParts}
use Rattle.cts_conv.specs.declared.value.Value.{Value}
use Rattle.cts_conv.specs.Formatting.{directive_text, fixed_text, parts_in, precision_of, fixed_digits, fraction_of, rounded}
use Rattle.cts_conv.proofs.Digiting.{ten_pos}
use Rattle.cts_conv_laws.specs.Numerals.{DecimalTextsMeanTheirNumber, FixedDigitsMeanTheirNumber, IsDecimalOf, IsFixedOf, is_digit_of, with_point}
use Rattle.cts_conv_laws.proofs.Numerals.{all_push}
use Rattle.cts_conv_laws.proofs.Texts.{decimal_means, digits_short, filled_up_so, is_short}

-- ---- the last digits

digit_worth : (d : ℕ) → d < 10 → digit_value (48 + d) ≡ d
digit_worth d h = grind (arith, nat_tests)

digit_stands : (d : ℕ) → d < 10 → is_digit_of 10 false (48 + d) ≡ true
digit_stands d h = grind (arith, nat_tests)

last_are_digits : (k n : ℕ) → list_all (is_digit_of 10 false) (last_digits k n) ≡ true
unfolding last_digits
last_are_digits zero n = refl
last_are_digits (suc k) n = all_push (is_digit_of 10 false) (last_digits k (n / 10)) (48 + n % 10) (last_are_digits k (n / 10)) (digit_stands (n % 10) (omega arith))

carried : (v p q m : ℕ) (r : ℕ) → q ≡ p * 10 → (v * p + m) * 10 + r ≡ v * q + (m * 10 + r)
carried v p q m r e = rw (e, add-mul (v * p) m 10, mul_assoc v p 10) (omega arith)

-- digits, and after them the last k digits of n
last_worth : (k n : ℕ) (ds : List ℕ) → digits_value 10 (ds ++ last_digits k n) ≡ digits_value 10 ds * 10 ^ k + n % 10 ^ k
unfolding last_digits
last_worth zero n ds = ap (digits_value 10) (append-nil ds) ∙ omega arith
last_worth (suc k) n ds =
    let low : n % 10 < 10 = omega arith in
    let more = digits_value_push 10 (ds ++ last_digits k (n / 10)) (48 + n % 10) in
    let split : n % 10 ^ suc k ≡ (n / 10 % 10 ^ k) * 10 + n % 10 = ap (λ (x : ℕ). n % x) (pow-suc 10 k) ∙ mod-mul n {m = 10 ^ k} {c = 10} (ten_pos k) (omega arith) in
    ap (digits_value 10) (sym (append_assoc ds (last_digits k (n / 10)) ((48 + n % 10) ∷ []))) ∙ more
    ∙ ap (λ (x : ℕ). x * 10 + digit_value (48 + n % 10)) (last_worth k (n / 10) ds)
    ∙ ap (λ (x : ℕ). (digits_value 10 ds * 10 ^ k + n / 10 % 10 ^ k) * 10 + x) (digit_worth (n % 10) low)
    ∙ carried (digits_value 10 ds) (10 ^ k) (10 ^ suc k) (n / 10 % 10 ^ k) (n % 10) (pow-suc 10 k)
    ∙ ap (λ (x : ℕ). digits_value 10 ds * 10 ^ suc k + x) (sym split)

-- ---- whole and fraction

point_before : (ds : List ℕ) → 1 ≤ length ds → with_point ds ≡ 46 ∷ ds
point_before [] some = absurd (omega (arith, some))
point_before (d ∷ ds) some = refl

fraction_is : (k n : ℕ) → fraction_of k n ≡ with_point (last_digits k n)
fraction_is zero n = unfold last_digits in refl
fraction_is (suc k) n = let long = length-last_digits (suc k) n in sym (point_before (last_digits (suc k) n) (omega (arith, long)))

pub fixed_digits_mean : FixedDigitsMeanTheirNumber
fixed_digits_mean count n small =
    let unit : ℕ = 10 ^ count in
    let less = div-le_self n unit in
    let whole = decimal_means (n / unit) (omega (arith, less, small)) in
    record {
      whole = decimal (n / unit);
      fraction = last_digits count (n % unit);
      form = ap (λ (t : List ℕ). decimal (n / unit) ++ t) (fraction_is count (n % unit));
      number = whole;
      digits = last_are_digits count (n % unit);
      exact = length-last_digits count (n % unit);
      value = last_worth count (n % unit) (decimal (n / unit)) ∙ ap (λ (x : ℕ). x * unit + n % unit % unit) whole.value
          ∙ ap (λ (x : ℕ). n / unit * unit + x) (mod-eq_of_lt (mod-lt n (ten_pos count))) ∙ div-add-mod' n unit;
    }

-- ---- texts

all_both : (p : ℕ → Bool) (xs ys : List ℕ) → list_all p xs ≡ true → list_all p ys ≡ true → list_all p (xs ++ ys) ≡ true
all_both p xs ys a b = list_all-append p xs ys ∙ and_from (list_all p xs) (list_all p ys) a b

point_short : (ds : List ℕ) → list_all is_short ds ≡ true → list_all is_short (with_point ds) ≡ true
point_short [] h = refl
point_short (d ∷ ds) h = h

fixed_short : (count n : ℕ) (text : List ℕ) → IsFixedOf count n text → list_all is_short text ≡ true
fixed_short count n text w =
    ap (list_all is_short) w.form
    ∙ all_both is_short w.whole (with_point w.fraction) (digits_short 10 false w.whole (omega arith) w.number.digits) (point_short w.fraction (digits_short 10 false w.fraction (omega arith) w.digits))

rounded_small : (count n : ℕ) → count ≤ 12 → n ≤ 2 ^ 127 → rounded count n < 2 ^ 128
rounded_small count n few small =
    let unit : ℕ = 10 ^ (12 - count) in
    let top : unit ≤ 10 ^ 12 = pow-le-pow_right {n = 10} (omega arith) {i = 12 - count} {j = 12} (omega arith) in
    let less = div-le_self (n + unit / 2) unit in
    omega (arith, top, less, small)

fixed_text_means : (p : FormatParts) (count : ℕ) (parts : ℤ) → count ≤ 12 → unsigned_abs parts ≤ 2 ^ 127 → IsDecimalOf p count parts (fixed_text p count parts)
fixed_text_means p count parts few small =
    let number = fixed_digits_mean count (rounded count (unsigned_abs parts)) (rounded_small count (unsigned_abs parts) few small) in
    record {
      digits = fixed_digits count (rounded count (unsigned_abs parts));
      number = number;
      shown = filled_up_so p (is_negative parts && not (rounded count (unsigned_abs parts) == 0)) (fixed_digits count (rounded count (unsigned_abs parts)))
          (fixed_short count (rounded count (unsigned_abs parts)) (fixed_digits count (rounded count (unsigned_abs parts))) number);
    }

not_plain : (letter : ℕ) → (letter == 102) ≡ true → (letter == 115) ≡ false
not_plain letter e = grind (arith, nat_tests)

fixed_directive : (p : FormatParts) (v : Value) → (p.letter == 102) ≡ true → directive_text p v ≡ fixed_text p (precision_of p.precision) (parts_in v)
fixed_directive p v fixed = rw (not_plain p.letter fixed, fixed) refl

pub decimal_texts_mean : DecimalTextsMeanTheirNumber
decimal_texts_mean p v fixed few small =
    subst (IsDecimalOf p (precision_of p.precision) (parts_in v)) (sym (fixed_directive p v fixed)) (fixed_text_means p (precision_of p.precision) (parts_in v) few small)
