-- What the printed digits of a decimal write, and that they are read again as that decimal.
use Rattle.std.proofs.Common.{◌≡◌, ◌≢◌, ℕ, zero, suc, ◌+◌, ◌-◌, ◌*◌, ◌/◌, ◌%◌, ◌^◌, ◌<◌, ◌≤◌, Bool, true, ltb, List, [], ◌∷◌, ◌++◌, length, take, drop, reverse, get_or, ℤ, pos, negsuc, unsigned_abs, Some, Ok, refl, sym, ap, ◌∙◌, lit<, arith}
use Rattle.std.specs.Char.{is_digit, digit_value}
use Rattle.std.specs.Fmt.{decimal, signed_decimal}
use Rattle.std.specs.List.{list_all, suffix_len}
use Rattle.std.specs.Str.Parse.{digits_value, digits_value_after}
use Rattle.std.proofs.lemmas.Bool.{and_parts, and_from, ltb-true, lt-ltb, eqb-true, eqb-false}
use Rattle.std.proofs.lemmas.Bool.Decides.{nat_tests}
use Rattle.std.proofs.lemmas.Fmt.{decimal_digit, decimal_step, decimal_is_IsNumeral_wide, length-decimal-le_wide}
use Rattle.std.proofs.lemmas.Int.Digits.{digits_value_push}
use Rattle.std.proofs.lemmas.List.{length_push, take-append-drop, length-take-le, length-drop, get_or-take, get_or-drop, get_or-reverse, length-reverse, take_rest}
use Rattle.std.proofs.lemmas.List.Sums.{prefix_len_passes, prefix_len_stops, suffix_len-le-length}
use Rattle.std.proofs.Math.Nat.{pow-le-pow_right, pow-suc, one-le-pow}
use Rattle.cts_base.specs.Digits.{is_numeral}
use Rattle.cts_base.specs.Signs.{sign_text, is_minus, with_sign}
use Rattle.cts_base.specs.Decimals.{WritesDecimal, decimal_of}
use Rattle.cts_base.specs.Prints.{sign_of, PrintsDecimal, last_digits, is_zero_digit, without_trailing_zeros, fraction_text, decimal_text}
use Rattle.cts_base.specs.Wholes.{is_whole_size, whole_of}
use Rattle.cts_base.specs.Wholes.Mark.{no_mark}
use Rattle.cts_base.specs.declared.decimal.Decimal.{Decimal}
use Rattle.cts_base.proofs.Numerals.{numeral_tells}
use Rattle.cts_base.proofs.WholeLemmas.{whole_from_writes}
use Rattle.cts_base.proofs.DecimalLemmas.{read_iff, point_text-numeral}

-- ---- the last digits of a number

pub length-last_digits : (k n : ℕ) → length (last_digits k n) ≡ k
unfolding last_digits
length-last_digits zero n = refl
length-last_digits (suc k) n = omega (arith, length_push (last_digits k (n / 10)) (48 + n % 10), length-last_digits k (n / 10))

digit_48 : (d : ℕ) → d < 10 → digit_value (48 + d) ≡ d
digit_48 d h = grind (arith, nat_tests)

is_digit_48 : (d : ℕ) → d < 10 → is_digit (48 + d) 10 ≡ true
is_digit_48 d h = lt-ltb (digit_value (48 + d)) 10 (omega (arith, digit_48 d h))

pub all_push : (p : ℕ → Bool) (xs : List ℕ) (y : ℕ) → list_all p xs ≡ true → p y ≡ true → list_all p (xs ++ (y ∷ [])) ≡ true
all_push p [] y h g = and_from (p y) true g refl
all_push p (x ∷ xs) y h g =
    let parts = and_parts (p x) (list_all p xs) h in
    and_from (p x) (list_all p (xs ++ (y ∷ []))) parts.0 (all_push p xs y parts.1 g)

pub all-last_digits : (k n : ℕ) → list_all (λ c. is_digit c 10) (last_digits k n) ≡ true
unfolding last_digits
all-last_digits zero n = refl
all-last_digits (suc k) n = all_push (λ c. is_digit c 10) (last_digits k (n / 10)) (48 + n % 10) (all-last_digits k (n / 10)) (is_digit_48 (n % 10) (omega arith))

pub value-last_digits : (k n : ℕ) → n < 10 ^ k → digits_value 10 (last_digits k n) ≡ n
unfolding last_digits
value-last_digits zero n h = let e : 10 ^ 0 ≡ 1 = refl in omega arith
value-last_digits (suc k) n h =
    let low : n < 10 ^ k * 10 = omega (arith, pow-suc 10 k) in
    let front : digits_value 10 (last_digits k (n / 10)) ≡ n / 10 = value-last_digits k (n / 10) (omega arith) in
    let last : digit_value (48 + n % 10) ≡ n % 10 = digit_48 (n % 10) (omega arith) in
    omega (arith, digits_value_push 10 (last_digits k (n / 10)) (48 + n % 10))

-- the print of 10^k + n is a 1 and the last k digits of n
pub decimal-last_digits : (k n : ℕ) → k ≤ 12 → n < 10 ^ k → decimal (10 ^ k + n) ≡ 49 ∷ last_digits k n
unfolding last_digits
decimal-last_digits zero n few h =
    let one : 10 ^ 0 + n ≡ 1 = let e : 10 ^ 0 ≡ 1 = refl in omega arith in
    ap decimal one ∙ decimal_digit 1 (lit< tt)
decimal-last_digits (suc k) n few h =
    let power : 10 ^ suc k ≡ 10 ^ k * 10 = pow-suc 10 k in
    let low : 10 ^ suc k ≤ 10 ^ 12 = pow-le-pow_right {n = 10} (lit< tt) {i = suc k} {j = 12} few in
    let some : 1 ≤ 10 ^ k = one-le-pow k 10 (lit< tt) in
    let m = 10 ^ suc k + n in
    let front : m / 10 ≡ 10 ^ k + n / 10 = omega arith in
    let last : m % 10 ≡ n % 10 = omega arith in
    let split : decimal m ≡ decimal (m / 10) ++ ((48 + m % 10) ∷ []) = decimal_step m (omega arith) (omega arith) in
    split ∙ (ap (λ f. decimal f ++ ((48 + m % 10) ∷ [])) front
    ∙ (ap (λ d. decimal (10 ^ k + n / 10) ++ ((48 + d) ∷ [])) last
    ∙ ap (λ t. t ++ ((48 + n % 10) ∷ [])) (decimal-last_digits k (n / 10) (omega arith) (omega arith))))

-- the digits after the 1, as the code cuts them out
pub digits-after_one : (n : ℕ) (text : List ℕ) → text ≡ decimal (10 ^ 12 + n) → n < 10 ^ 12 → (length text ≡ 13) × (take (length text - 1) (drop 1 text) ≡ last_digits 12 n)
digits-after_one n text is small =
    let e : text ≡ 49 ∷ last_digits 12 n = is ∙ decimal-last_digits 12 n (omega arith) small in
    (ap length e ∙ ap suc (length-last_digits 12 n), take_rest text 1 ∙ ap (drop 1) e)

-- ---- zeros at the end

pub value_after-append : (m : ℕ) (xs ys : List ℕ) → digits_value_after 10 m (xs ++ ys) ≡ digits_value_after 10 (digits_value_after 10 m xs) ys
value_after-append m [] ys = refl
value_after-append m (x ∷ xs) ys = value_after-append (m * 10 + digit_value x) xs ys

pub value_after-zeros : (m : ℕ) (zs : List ℕ) → ((k : ℕ) → k < length zs → get_or zs k 0 ≡ 48) → digits_value_after 10 m zs ≡ m * 10 ^ length zs
value_after-zeros m [] h = let e : 10 ^ 0 ≡ 1 = refl in omega arith
value_after-zeros m (z ∷ zs) h =
    let first : z ≡ 48 = h 0 (omega arith) in
    let none : digit_value z ≡ 0 = ap digit_value first in
    let next : m * 10 + digit_value z ≡ m * 10 = omega arith in
    let rest = value_after-zeros (m * 10) zs (λ k l. h (suc k) (omega arith)) in
    let more : m * 10 ^ length (z ∷ zs) ≡ m * (10 ^ length zs * 10) = ap (λ p. m * p) (pow-suc 10 (length zs)) in
    ap (λ n. digits_value_after 10 n zs) next ∙ (rest ∙ omega (arith, more))

record Trimmed (ds : List ℕ) : Type 0 where
  within : length (without_trailing_zeros ds) ≤ length ds
  value : (m : ℕ) → digits_value_after 10 m (without_trailing_zeros ds) * 10 ^ (length ds - length (without_trailing_zeros ds)) ≡ digits_value_after 10 m ds
  last : 0 < length (without_trailing_zeros ds) → get_or (without_trailing_zeros ds) (length (without_trailing_zeros ds) - 1) 0 ≢ 48

trimmed : (ds : List ℕ) → Trimmed ds
trimmed ds =
    let s = suffix_len is_zero_digit ds in
    let n = length ds in
    let bound : s ≤ n = suffix_len-le-length is_zero_digit ds in
    let k = n - s in
    let len : length (take k ds) ≡ k = length-take-le k ds (omega arith) in
    let len_rest : length (drop k ds) ≡ s = length-drop k ds ∙ omega arith in
    let zeros : (j : ℕ) → j < length (drop k ds) → get_or (drop k ds) j 0 ≡ 48 = λ j l.
    let i = n - 1 - (k + j) in
    let back : n - 1 - i ≡ k + j = omega arith in
    get_or-drop k ds j 0 ∙ (ap (λ at. get_or ds at 0) (sym back)
    ∙ (sym (get_or-reverse ds i 0 (omega arith))
    ∙ eqb-true (get_or (reverse ds) i 0) 48 (prefix_len_passes is_zero_digit (reverse ds) i 0 (omega arith)))) in
    let gap : n - length (take k ds) ≡ length (drop k ds) = omega arith in
    record {
      within = omega arith;
      value = λ m.
          ap (λ e. digits_value_after 10 m (take k ds) * 10 ^ e) gap
          ∙ (sym (value_after-zeros (digits_value_after 10 m (take k ds)) (drop k ds) zeros)
          ∙ (sym (value_after-append m (take k ds) (drop k ds)) ∙ ap (digits_value_after 10 m) (take-append-drop k ds)));
      last = λ some is48.
          let inside : s < length (reverse ds) = omega (arith, length-reverse ds) in
          let stops = eqb-false (get_or (reverse ds) s 0) 48 (prefix_len_stops is_zero_digit (reverse ds) 0 inside) in
          let place : n - 1 - s ≡ length (take k ds) - 1 = omega arith in
          stops (get_or-reverse ds s 0 (omega arith)
          ∙ (ap (λ at. get_or ds at 0) place
          ∙ (sym (get_or-take k ds (length (take k ds) - 1) 0 (omega arith)) ∙ is48)));
    }

all_take : (p : ℕ → Bool) (n : ℕ) (xs : List ℕ) → list_all p xs ≡ true → list_all p (take n xs) ≡ true
all_take p zero xs h = refl
all_take p (suc n) [] h = refl
all_take p (suc n) (x ∷ xs) h =
    let parts = and_parts (p x) (list_all p xs) h in
    and_from (p x) (list_all p (take n xs)) parts.0 (all_take p n xs parts.1)

-- ---- the fraction

record FractionOf (n : ℕ) (fraction : List ℕ) : Type 0 where
  digits : is_numeral 10 fraction ≡ true
  few : length fraction ≤ 12
  value : digits_value 10 fraction * 10 ^ (12 - length fraction) ≡ n
  shortest : get_or fraction (length fraction - 1) 0 ≡ 48 → length fraction ≡ 1

fraction_from : (d : ℕ) (ds : List ℕ) (n : ℕ) → length ds ≡ 11 → list_all (λ c. is_digit c 10) (d ∷ ds) ≡ true → digits_value 10 (d ∷ ds) ≡ n → FractionOf n (d ∷ without_trailing_zeros ds)
fraction_from d ds n len all value =
    let t = trimmed ds in
    let rest = without_trailing_zeros ds in
    let parts = and_parts (is_digit d 10) (list_all (λ c. is_digit c 10) ds) all in
    let gap : 12 - length (d ∷ rest) ≡ length ds - length rest = omega (arith, t.within) in
    record {
      digits = and_from (ltb 0 (length (d ∷ rest))) (list_all (λ c. is_digit c 10) (d ∷ rest)) (lt-ltb 0 (length (d ∷ rest)) (omega arith))
          (and_from (is_digit d 10) (list_all (λ c. is_digit c 10) rest) parts.0 (all_take (λ c. is_digit c 10) (length ds - suffix_len is_zero_digit ds) ds parts.1));
      few = omega (arith, t.within);
      value = ap (λ e. digits_value 10 (d ∷ rest) * 10 ^ e) gap ∙ (t.value (0 * 10 + digit_value d) ∙ value);
      shortest = λ is48. last_alone d rest t.last is48;
    }
  where
    last_alone : (x : ℕ) (xs : List ℕ) → (0 < length xs → get_or xs (length xs - 1) 0 ≢ 48) → get_or (x ∷ xs) (length (x ∷ xs) - 1) 0 ≡ 48 → length (x ∷ xs) ≡ 1
    last_alone x [] h is48 = refl
    last_alone x (y ∷ ys) h is48 =
        let at : length (x ∷ (y ∷ ys)) - 1 ≡ suc (length (y ∷ ys) - 1) = omega arith in
        absurd (h (omega arith) (ap (λ i. get_or (x ∷ (y ∷ ys)) i 0) (sym at) ∙ is48))

fraction_is : (ds : List ℕ) (n : ℕ) → length ds ≡ 12 → list_all (λ c. is_digit c 10) ds ≡ true → digits_value 10 ds ≡ n → FractionOf n (take 1 ds ++ without_trailing_zeros (drop 1 ds))
fraction_is [] n len all value = absurd (omega arith)
fraction_is (d ∷ ds) n len all value = fraction_from d ds n (omega arith) all value

fraction_text_is : (n : ℕ) → n < 10 ^ 12 → FractionOf n (fraction_text n)
unfolding fraction_text
fraction_text_is n small = fraction_is (last_digits 12 n) n (length-last_digits 12 n) (all-last_digits 12 n) (value-last_digits 12 n small)

-- ---- the whole text

pub prints_decimal : (parts : ℤ) → PrintsDecimal parts (decimal_text parts)
unfolding decimal_text
prints_decimal parts =
    let size = unsigned_abs parts in
    let f = fraction_text_is (size % 10 ^ 12) (omega arith) in
    record {
      whole = size / 10 ^ 12;
      fraction = fraction_text (size % 10 ^ 12);
      form = refl;
      digits = f.digits;
      few = f.few;
      value = omega (arith, f.value);
      shortest = f.shortest;
    }

signed_size : (parts : ℤ) → with_sign (is_minus (sign_of parts)) (unsigned_abs parts) ≡ parts
signed_size (pos n) = refl
signed_size (negsuc n) = refl

decimal_numeral : (n : ℕ) → n < 10 ^ 64 → (is_numeral 10 (decimal n) ≡ true) × (digits_value 10 (decimal n) ≡ n)
decimal_numeral n small =
    let d = decimal_is_IsNumeral_wide n small in
    ((numeral_tells 10 (decimal n)).1 d.0, d.1)

pub writes_from_prints : (parts : ℤ) (text : List ℕ) → PrintsDecimal parts text → unsigned_abs parts < 10 ^ 37 → WritesDecimal text parts
writes_from_prints parts text p small =
    let low : p.whole < 10 ^ 25 = omega (arith, p.value) in
    let w = decimal_numeral p.whole (omega arith) in
    record {
      written = record {
        sign = sign_of parts;
        whole = decimal p.whole;
        fraction = p.fraction;
        form = p.form ∙ ap (λ t. sign_text (sign_of parts) ++ (decimal p.whole ++ t)) (sym (point_text-numeral p.fraction p.digits));
        whole_digits = w.0;
        fraction_digits = (and_parts (ltb 0 (length p.fraction)) (list_all (λ c. is_digit c 10) p.fraction) p.digits).1;
      };
      whole_length = length-decimal-le_wide 25 p.whole (lit< tt) low (omega arith);
      fraction_length = p.few;
      value = sym (ap (λ n. with_sign (is_minus (sign_of parts)) (n * 10 ^ 12 + digits_value 10 p.fraction * 10 ^ (12 - length p.fraction))) w.1
          ∙ (ap (with_sign (is_minus (sign_of parts))) (sym p.value) ∙ signed_size parts));
    }

pub decimal_of-decimal_text : (value : Decimal) → unsigned_abs value.parts < 10 ^ 37 → decimal_of (decimal_text value.parts) ≡ Ok value
decimal_of-decimal_text value small =
    (read_iff (decimal_text value.parts) (decimal_of (decimal_text value.parts)) refl value.parts).1 (writes_from_prints value.parts (decimal_text value.parts) (prints_decimal value.parts) small)

-- ---- whole numbers

signed-text : (z : ℤ) → signed_decimal z ≡ sign_text (sign_of z) ++ decimal (unsigned_abs z)
signed-text (pos n) = refl
signed-text (negsuc n) = refl

whole-lt : (z : ℤ) → is_whole_size z ≡ true → unsigned_abs z ≤ 2 ^ 64
whole-lt (pos n) h = omega (arith, ltb-true n (2 ^ 64) h)
whole-lt (negsuc n) h = omega (arith, ltb-true n (2 ^ 63) h)

pub whole_of-signed_decimal : (z : ℤ) → is_whole_size z ≡ true → whole_of (signed_decimal z) ≡ Some z
whole_of-signed_decimal z size =
    let d = decimal_numeral (unsigned_abs z) (omega (arith, whole-lt z size)) in
    whole_from_writes (signed_decimal z) z (record {
      sign = sign_of z;
      mark = no_mark;
      digits = decimal (unsigned_abs z);
      form = signed-text z;
      numeral = d.0;
      value = sym (ap (with_sign (is_minus (sign_of z))) d.1 ∙ signed_size z);
      size = size;
    })
