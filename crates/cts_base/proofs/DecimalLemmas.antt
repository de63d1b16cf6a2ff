-- The decimal that `decimal_of` computes is the one that the text writes.
use Rattle.std.proofs.Common.{◌≡◌, ◌↔◌, ℕ, ◌+◌, ◌<◌, ◌≤◌, Bool, true, false, cond, not, ◌&&◌, ◌||◌, ltb, leb, List, [], ◌∷◌, ◌++◌, length, take, drop, get_or, ℤ, pos, Result, Ok, Err, refl, sym, ap, ◌∙◌, ◌⊎◌, inl, inr, ⊎_elim, arith}
use Rattle.std.proofs.Common.{unwrap_or}
use Rattle.std.specs.List.{position}
use Rattle.std.specs.Char.{is_digit}
use Rattle.std.specs.List.{list_all, before_first, after_first, position_or_len}
use Rattle.std.specs.Str.Parse.{without_leading_sign, starts_with_minus}
use Rattle.std.proofs.lemmas.Bool.{and_parts, or_cases, eqb-true, cases_Bool, and_from, ltb-true, ltb-false, or_left, or_right, and_right, and_left, lt-ltb, le-ltb, le-leb, lt-leb, leb-true, leb-false, and_cases, not_from_false, not-true}
use Rattle.std.proofs.lemmas.Bool.Decides.{nat_tests}
use Rattle.std.proofs.lemmas.List.{take_at, drop_at, drop-drop, drop_all, take_all, append-nil, length-append}
use Rattle.std.proofs.lemmas.List.Sums.{split_at_first, passes_at_first, prefix_len-le-length}
use Rattle.cts_base.specs.Digits.{is_numeral}
use Rattle.cts_base.specs.Signs.{sign_text, is_minus}
use Rattle.cts_base.specs.Decimals.{point_text, HasDecimalForm, parts_of, WritesDecimal, HasTooManyDigits, is_point, has_point, is_unsigned_decimal, decimal_from, unsigned_decimal, decimal_of}
use Rattle.cts_base.specs.declared.decimal.Decimal.{Decimal}
use Rattle.cts_base.specs.declared.decimal.NotDecimal.{NotDecimal}
use Rattle.cts_base.specs.declared.decimal.NotDecimal.TheVariants.{Form, TooManyDigits}
use Rattle.cts_base.proofs.SignLemmas.{sign_split, NoSign, without_sign, minus_sign}
use Rattle.cts_base.proofs.WholeLemmas.{numeral_all, numeral-no_sign}

-- ---- from the digits to the text's parts

digit-no_point : (c : ℕ) → is_digit c 10 ≡ true → is_point c ≡ false
digit-no_point c h = grind (arith, nat_tests)

place-point : (whole fraction : List ℕ) → list_all (λ c. is_digit c 10) whole ≡ true → position_or_len is_point (whole ++ point_text fraction) ≡ length whole
place-point [] [] h = refl
place-point [] (f ∷ fs) h = refl
place-point (c ∷ cs) fraction h =
    let parts = and_parts (is_digit c 10) (list_all (λ d. is_digit d 10) cs) h in
    let e : is_point c ≡ false = digit-no_point c parts.0 in
    rw e (omega (arith, place-point cs fraction parts.1))

before-point : (whole fraction : List ℕ) → list_all (λ c. is_digit c 10) whole ≡ true → before_first is_point (whole ++ point_text fraction) ≡ whole
before-point whole fraction h =
    ap (λ n. take n (whole ++ point_text fraction)) (place-point whole fraction h) ∙ take_at whole (point_text fraction) (length whole) refl

drop-point : (whole fraction : List ℕ) → drop (length whole + 1) (whole ++ point_text fraction) ≡ fraction
drop-point whole [] = drop_all (length whole + 1) (whole ++ []) (omega (arith, length-append whole []))
drop-point whole (f ∷ fs) =
    sym (drop-drop 1 (length whole) (whole ++ (46 ∷ f ∷ fs))) ∙ ap (drop 1) (drop_at whole (46 ∷ f ∷ fs) (length whole) refl)

after-point : (whole fraction : List ℕ) → list_all (λ c. is_digit c 10) whole ≡ true → after_first is_point (whole ++ point_text fraction) ≡ fraction
after-point whole fraction h =
    ap (λ n. drop (n + 1) (whole ++ point_text fraction)) (place-point whole fraction h) ∙ drop-point whole fraction

has_form_after : (whole fraction : List ℕ) → list_all (λ c. is_digit c 10) whole ≡ true → list_all (λ c. is_digit c 10) fraction ≡ true → (not (has_point (whole ++ point_text fraction)) || is_numeral 10 (after_first is_point (whole ++ point_text fraction))) ≡ true
has_form_after whole [] h g =
    let text = whole ++ [] in
    let none : has_point text ≡ false = le-ltb (position_or_len is_point text) (length text) (omega (arith, place-point whole [] h, length-append whole [])) in
    or_left (not (has_point text)) (is_numeral 10 (after_first is_point text)) (not_from_false (has_point text) none)
has_form_after whole (f ∷ fs) h g =
    let text = whole ++ point_text (f ∷ fs) in
    let digits : is_numeral 10 (f ∷ fs) ≡ true = and_from (ltb 0 (length (f ∷ fs))) (list_all (λ c. is_digit c 10) (f ∷ fs)) (lt-ltb 0 (length (f ∷ fs)) (omega arith)) g in
    or_right (not (has_point text)) (is_numeral 10 (after_first is_point text)) (ap (is_numeral 10) (after-point whole (f ∷ fs) h) ∙ digits)

unsigned-form : (negative : Bool) (whole fraction : List ℕ) → is_numeral 10 whole ≡ true → list_all (λ c. is_digit c 10) fraction ≡ true → unsigned_decimal negative (whole ++ point_text fraction) ≡ decimal_from negative whole fraction
unsigned-form negative whole fraction numeral digits =
    let text = whole ++ point_text fraction in
    let h = numeral_all 10 whole numeral in
    let e : is_unsigned_decimal text ≡ true =
    and_from (is_numeral 10 (before_first is_point text)) (not (has_point text) || is_numeral 10 (after_first is_point text)) (ap (is_numeral 10) (before-point whole fraction h) ∙ numeral) (has_form_after whole fraction h digits) in
    let f : Bool → Result Decimal NotDecimal = λ b. cond b (decimal_from negative (before_first is_point text) (after_first is_point text)) (Err Form) in
    ap f e ∙ (ap (λ w. decimal_from negative w (after_first is_point text)) (before-point whole fraction h) ∙ ap (decimal_from negative whole) (after-point whole fraction h))

decimal_at : (text : List ℕ) (negative : Bool) (body : List ℕ) → starts_with_minus text ≡ negative → without_leading_sign text ≡ body → decimal_of text ≡ unsigned_decimal negative body
unfolding decimal_of
decimal_at text negative body sign rest =
    ap (λ b. unsigned_decimal b (without_leading_sign text)) sign ∙ ap (unsigned_decimal negative) rest

body-no_sign : (whole fraction : List ℕ) → is_numeral 10 whole ≡ true → NoSign (whole ++ point_text fraction)
body-no_sign [] fraction h = absurd cc
body-no_sign (c ∷ cs) fraction h =
    let plain = numeral-no_sign (c ∷ cs) h in
    record { not_plus = plain.not_plus; not_minus = plain.not_minus }

-- the decimal of a text of the form is that of its digits
pub decimal-form : (text : List ℕ) (w : HasDecimalForm text) → decimal_of text ≡ decimal_from (is_minus w.sign) w.whole w.fraction
decimal-form text w =
    let body = w.whole ++ point_text w.fraction in
    let plain = body-no_sign w.whole w.fraction w.whole_digits in
    decimal_at text (is_minus w.sign) body
    (ap starts_with_minus w.form ∙ minus_sign w.sign body plain)
    (ap without_leading_sign w.form ∙ without_sign w.sign body plain)
    ∙ unsigned-form (is_minus w.sign) w.whole w.fraction w.whole_digits w.fraction_digits

-- ---- from the text's parts to the digits

pub point_text-numeral : (fraction : List ℕ) → is_numeral 10 fraction ≡ true → point_text fraction ≡ 46 ∷ fraction
point_text-numeral [] h = absurd cc
point_text-numeral (f ∷ fs) h = refl

record BodyForm (body : List ℕ) : Type 0 where
  parts : body ≡ before_first is_point body ++ point_text (after_first is_point body)
  whole_digits : is_numeral 10 (before_first is_point body) ≡ true
  fraction_digits : list_all (λ c. is_digit c 10) (after_first is_point body) ≡ true

body_form : (body : List ℕ) → is_unsigned_decimal body ≡ true → BodyForm body
body_form body h =
    let at = position_or_len is_point body in
    let whole = before_first is_point body in
    let fraction = after_first is_point body in
    let both = and_parts (is_numeral 10 whole) (not (has_point body) || is_numeral 10 fraction) h in
    ⊎_elim
    (λ (e : has_point body ≡ true).
    let inside : at < length body = ltb-true at (length body) e in
    let digits : is_numeral 10 fraction ≡ true =
    ⊎_elim (λ (n : not (has_point body) ≡ true). absurd (let g = not-true (has_point body) n in cc)) (λ (g : is_numeral 10 fraction ≡ true). g) (or_cases (not (has_point body)) (is_numeral 10 fraction) both.1) in
    let point : get_or body at 0 ≡ 46 = eqb-true (get_or body at 0) 46 (passes_at_first is_point body 0 inside) in
    record {
      parts = split_at_first is_point body 0 inside ∙ (ap (λ c. whole ++ (c ∷ fraction)) point ∙ ap (λ t. whole ++ t) (sym (point_text-numeral fraction digits)));
      whole_digits = both.0;
      fraction_digits = numeral_all 10 fraction digits;
    })
    (λ (e : has_point body ≡ false).
    let past : length body ≤ at = ltb-false at (length body) e in
    let all : whole ≡ body = take_all at body past in
    let none : fraction ≡ [] = drop_all (at + 1) body (omega arith) in
    record {
      parts = sym (ap (λ t. whole ++ point_text t) none ∙ (append-nil whole ∙ all));
      whole_digits = both.0;
      fraction_digits = ap (list_all (λ c. is_digit c 10)) none;
    })
    (cases_Bool (has_point body))

form_from_body : (text : List ℕ) → BodyForm (without_leading_sign text) → HasDecimalForm text
form_from_body text b =
    let s = sign_split text in
    record {
      sign = s.sign;
      whole = before_first is_point (without_leading_sign text);
      fraction = after_first is_point (without_leading_sign text);
      form = s.form ∙ ap (λ t. sign_text s.sign ++ t) b.parts;
      whole_digits = b.whole_digits;
      fraction_digits = b.fraction_digits;
    }

form_or_not : (text : List ℕ) → HasDecimalForm text ⊎ (decimal_of text ≡ Err Form)
unfolding decimal_of
form_or_not text =
    let body = without_leading_sign text in
    ⊎_elim
    (λ (e : is_unsigned_decimal body ≡ true). inl (form_from_body text (body_form body e)))
    (λ (e : is_unsigned_decimal body ≡ false).
    let f : Bool → Result Decimal NotDecimal = λ b. cond b (decimal_from (starts_with_minus text) (before_first is_point body) (after_first is_point body)) (Err Form) in
    inr (ap f e))
    (cases_Bool (is_unsigned_decimal body))

pub position-or_length : (p : ℕ → Bool) (xs : List ℕ) → unwrap_or (position p xs) (length xs) ≡ position_or_len p xs
position-or_length p xs =
    let at = position_or_len p xs in
    ⊎_elim
    (λ (e : ltb at (length xs) ≡ true). rw e refl)
    (λ (e : ltb at (length xs) ≡ false).
    let past = ltb-false at (length xs) e in
    rw e (omega (arith, prefix_len-le-length (λ x. not (p x)) xs)))
    (cases_Bool (ltb at (length xs)))

-- ---- what a call answers

abbrev few_digits : List ℕ → List ℕ → Bool
few_digits whole fraction = leb (length whole) 25 && leb (length fraction) 12

abbrev answer : Bool → ℤ → Result Decimal NotDecimal
answer few parts = cond few (Ok (record { parts = parts })) (Err TooManyDigits)

not_form : (few : Bool) (parts : ℤ) → answer few parts ≡ Err Form → ⊥
not_form true parts h = cc
not_form false parts h = cc

abbrev parts_in : Result Decimal NotDecimal → ℤ
parts_in (Ok d) = d.parts
parts_in (Err _) = pos 0

few_from_ok : (few : Bool) (parts z : ℤ) → answer few parts ≡ Ok (record { parts = z }) → (few ≡ true) × (z ≡ parts)
few_from_ok true parts z h = (refl, sym (ap parts_in h))
few_from_ok false parts z h = absurd cc

many_from_err : (few : Bool) (parts : ℤ) → answer few parts ≡ Err TooManyDigits → few ≡ false
many_from_err true parts h = absurd cc
many_from_err false parts h = refl

pub form_iff : (text : List ℕ) (result : Result Decimal NotDecimal) → result ≡ decimal_of text → (result ≡ Err Form) ↔ (HasDecimalForm text → ⊥)
form_iff text result is = (
  λ h w. not_form (few_digits w.whole w.fraction) (parts_of (is_minus w.sign) w.whole w.fraction) (sym (decimal-form text w) ∙ (sym is ∙ h)),
  λ refuted. ⊎_elim (λ (w : HasDecimalForm text). absurd (refuted w)) (λ (e : decimal_of text ≡ Err Form). is ∙ e) (form_or_not text),
)

pub read_iff : (text : List ℕ) (result : Result Decimal NotDecimal) → result ≡ decimal_of text → (z : ℤ) → (result ≡ Ok (record { parts = z })) ↔ WritesDecimal text z
read_iff text result is z = (
  λ h. ⊎_elim
      (λ (w : HasDecimalForm text).
      let g = few_from_ok (few_digits w.whole w.fraction) (parts_of (is_minus w.sign) w.whole w.fraction) z (sym (decimal-form text w) ∙ (sym is ∙ h)) in
      let few = and_parts (leb (length w.whole) 25) (leb (length w.fraction) 12) g.0 in
      record { written = w; whole_length = leb-true (length w.whole) 25 few.0; fraction_length = leb-true (length w.fraction) 12 few.1; value = g.1 })
      (λ (e : decimal_of text ≡ Err Form). absurd cc)
      (form_or_not text),
  λ r.
      let w = r.written in
      let few : few_digits w.whole w.fraction ≡ true = and_from (leb (length w.whole) 25) (leb (length w.fraction) 12) (le-leb (length w.whole) 25 r.whole_length) (le-leb (length w.fraction) 12 r.fraction_length) in
      is ∙ (decimal-form text w ∙ (ap (λ b. answer b (parts_of (is_minus w.sign) w.whole w.fraction)) few ∙ ap (answer true) (sym r.value))),
)

pub digits_iff : (text : List ℕ) (result : Result Decimal NotDecimal) → result ≡ decimal_of text → (result ≡ Err TooManyDigits) ↔ HasTooManyDigits text
digits_iff text result is = (
  λ h. ⊎_elim
      (λ (w : HasDecimalForm text).
      let g = many_from_err (few_digits w.whole w.fraction) (parts_of (is_minus w.sign) w.whole w.fraction) (sym (decimal-form text w) ∙ (sym is ∙ h)) in
      record { written = w; many = ⊎_elim (λ (e : leb (length w.whole) 25 ≡ false). inl (leb-false (length w.whole) 25 e)) (λ (e : leb (length w.fraction) 12 ≡ false). inr (leb-false (length w.fraction) 12 e)) (and_cases (leb (length w.whole) 25) (leb (length w.fraction) 12) g) })
      (λ (e : decimal_of text ≡ Err Form). absurd cc)
      (form_or_not text),
  λ r.
      let w = r.written in
      let many : few_digits w.whole w.fraction ≡ false =
      ⊎_elim (λ (m : 25 < length w.whole). and_left (leb (length w.whole) 25) (leb (length w.fraction) 12) (lt-leb (length w.whole) 25 m)) (λ (m : 12 < length w.fraction). and_right (leb (length w.whole) 25) (leb (length w.fraction) 12) (lt-leb (length w.fraction) 12 m)) r.many in
      is ∙ (decimal-form text w ∙ ap (λ b. answer b (parts_of (is_minus w.sign) w.whole w.fraction)) many),
)
