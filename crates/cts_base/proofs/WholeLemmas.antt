-- The number that `whole_of` computes is the number that the text writes.
use Rattle.std.proofs.Common.{◌≡◌, ◌≢◌, ◌↔◌, ℕ, Bool, true, false, ◌&&◌, ◌||◌, eqb, List, [], ◌∷◌, ◌++◌, length, drop, Option, Some, ℤ, nat_lt, refl, sym, ap, ◌∙◌, subst, ⊎_elim, arith}
use Rattle.std.specs.Char.{is_digit}
use Rattle.std.specs.List.{list_all}
use Rattle.std.specs.Str.Parse.{digits_value, without_leading_sign, starts_with_minus}
use Rattle.std.proofs.lemmas.Bool.{ne_eqb, and_parts, or_cases, eqb-true, cases_Bool, and_from, or_from, and_right}
use Rattle.std.proofs.lemmas.Bool.Decides.{nat_tests}
use Rattle.cts_base.specs.Digits.{is_numeral}
use Rattle.cts_base.specs.Signs.{sign_text, is_minus, with_sign}
use Rattle.cts_base.specs.Wholes.{Mark, mark_text, base_of, is_whole_size, WritesWhole, is_hexadecimal, whole_from, unsigned_whole, whole_of}
use Rattle.cts_base.specs.Wholes.Mark.{no_mark, lower_x, upper_x}
use Rattle.cts_base.proofs.SignLemmas.{sign_split, NoSign, without_sign, minus_sign}

-- a decimal digit is no sign and no `x`
record PlainDigit (c : ℕ) : Type 0 where
  plus : c ≢ 43
  minus : c ≢ 45
  lower : c ≢ 120
  upper : c ≢ 88

digit-plain : (c : ℕ) → is_digit c 10 ≡ true → PlainDigit c
digit-plain c h = record {
  plus = λ e. grind (arith, nat_tests);
  minus = λ e. grind (arith, nat_tests);
  lower = λ e. grind (arith, nat_tests);
  upper = λ e. grind (arith, nat_tests);
}

pub numeral_all : (base : ℕ) (ds : List ℕ) → is_numeral base ds ≡ true → list_all (λ c. is_digit c base) ds ≡ true
numeral_all base ds h = (and_parts (nat_lt 0 (length ds)) (list_all (λ c. is_digit c base) ds) h).1

pub numeral-no_sign : (ds : List ℕ) → is_numeral 10 ds ≡ true → NoSign ds
numeral-no_sign [] h = record { not_plus = λ e. omega arith; not_minus = λ e. omega arith }
numeral-no_sign (c ∷ cs) h =
    let p = digit-plain c (and_parts (is_digit c 10) (list_all (λ d. is_digit d 10) cs) (numeral_all 10 (c ∷ cs) h)).0 in
    record { not_plus = p.plus; not_minus = p.minus }

numeral-no_mark : (ds : List ℕ) → is_numeral 10 ds ≡ true → is_hexadecimal ds ≡ false
numeral-no_mark [] h = refl
numeral-no_mark (c ∷ []) h = and_right (eqb c 48) false refl
numeral-no_mark (c ∷ (d ∷ cs)) h =
    let p = digit-plain d (and_parts (is_digit d 10) (list_all (λ x. is_digit x 10) cs) (and_parts (is_digit c 10) (list_all (λ x. is_digit x 10) (d ∷ cs)) (numeral_all 10 (c ∷ (d ∷ cs)) h)).1).0 in
    and_right (eqb c 48) (eqb d 120 || eqb d 88) (or_from (eqb d 120) (eqb d 88) (ne_eqb d 120 p.lower) (ne_eqb d 88 p.upper))

body-no_sign : (m : Mark) (ds : List ℕ) → is_numeral (base_of m) ds ≡ true → NoSign (mark_text m ++ ds)
body-no_sign no_mark ds h = numeral-no_sign ds h
body-no_sign lower_x ds h = record { not_plus = λ e. omega arith; not_minus = λ e. omega arith }
body-no_sign upper_x ds h = record { not_plus = λ e. omega arith; not_minus = λ e. omega arith }

unsigned-mark : (negative : Bool) (m : Mark) (ds : List ℕ) → is_numeral (base_of m) ds ≡ true → unsigned_whole negative (mark_text m ++ ds) ≡ whole_from negative (base_of m) ds
unsigned-mark negative no_mark ds h = rw (numeral-no_mark ds h) refl
unsigned-mark negative lower_x ds h = refl
unsigned-mark negative upper_x ds h = refl

whole_from-writes : (negative : Bool) (base : ℕ) (ds : List ℕ) (z : ℤ) → is_numeral base ds ≡ true → z ≡ with_sign negative (digits_value base ds) → is_whole_size z ≡ true → whole_from negative base ds ≡ Some z
whole_from-writes negative base ds z digits value size =
    let e : (is_numeral base ds && is_whole_size (with_sign negative (digits_value base ds))) ≡ true =
    and_from (is_numeral base ds) (is_whole_size (with_sign negative (digits_value base ds))) digits (subst (λ (n : ℤ). is_whole_size n ≡ true) value size) in
    rw e (ap Some (sym value))

whole_at : (text : List ℕ) (negative : Bool) (body : List ℕ) → starts_with_minus text ≡ negative → without_leading_sign text ≡ body → whole_of text ≡ unsigned_whole negative body
unfolding whole_of
whole_at text negative body sign rest =
    ap (λ b. unsigned_whole b (without_leading_sign text)) sign ∙ ap (unsigned_whole negative) rest

pub whole_from_writes : (text : List ℕ) (z : ℤ) → WritesWhole text z → whole_of text ≡ Some z
whole_from_writes text z w =
    let body = mark_text w.mark ++ w.digits in
    let plain = body-no_sign w.mark w.digits w.numeral in
    whole_at text (is_minus w.sign) body
    (ap starts_with_minus w.form ∙ minus_sign w.sign body plain)
    (ap without_leading_sign w.form ∙ without_sign w.sign body plain)
    ∙ (unsigned-mark (is_minus w.sign) w.mark w.digits w.numeral
    ∙ whole_from-writes (is_minus w.sign) (base_of w.mark) w.digits z w.numeral w.value w.size)

-- the other way
record FromDigits (negative : Bool) (base : ℕ) (ds : List ℕ) (z : ℤ) : Type 0 where
  numeral : is_numeral base ds ≡ true
  value : z ≡ with_sign negative (digits_value base ds)
  size : is_whole_size z ≡ true

from_digits : (negative : Bool) (base : ℕ) (ds : List ℕ) (z : ℤ) → whole_from negative base ds ≡ Some z → FromDigits negative base ds z
from_digits negative base ds z h =
    let number = with_sign negative (digits_value base ds) in
    ⊎_elim
    (λ (e : (is_numeral base ds && is_whole_size number) ≡ true).
    let parts = and_parts (is_numeral base ds) (is_whole_size number) e in
    let same : number ≡ z = let g = rw e at h in cc in
    record { numeral = parts.0; value = sym same; size = subst (λ (n : ℤ). is_whole_size n ≡ true) same parts.1 })
    (λ (e : (is_numeral base ds && is_whole_size number) ≡ false). let g = rw e at h in absurd cc)
    (cases_Bool (is_numeral base ds && is_whole_size number))

record MarkSplit (body : List ℕ) : Type 0 where
  mark : Mark
  form : body ≡ mark_text mark ++ drop 2 body
  base : base_of mark ≡ 16

mark_split : (body : List ℕ) → is_hexadecimal body ≡ true → MarkSplit body
mark_split [] h = absurd cc
mark_split (c ∷ []) h = absurd (let p = and_parts (eqb c 48) false h in cc)
mark_split (c ∷ (d ∷ cs)) h =
    let p = and_parts (eqb c 48) (eqb d 120 || eqb d 88) h in
    let first : c ≡ 48 = eqb-true c 48 p.0 in
    ⊎_elim
    (λ lower. let second : d ≡ 120 = eqb-true d 120 lower in record { mark = lower_x; form = cc; base = refl })
    (λ upper. let second : d ≡ 88 = eqb-true d 88 upper in record { mark = upper_x; form = cc; base = refl })
    (or_cases (eqb d 120) (eqb d 88) p.1)

writes_from_parts : (text : List ℕ) (z : ℤ) (m : Mark) (ds : List ℕ) → without_leading_sign text ≡ mark_text m ++ ds → FromDigits (starts_with_minus text) (base_of m) ds z → WritesWhole text z
writes_from_parts text z m ds form h =
    let s = sign_split text in
    record {
      sign = s.sign;
      mark = m;
      digits = ds;
      form = s.form ∙ ap (λ t. sign_text s.sign ++ t) form;
      numeral = h.numeral;
      value = h.value ∙ ap (λ b. with_sign b (digits_value (base_of m) ds)) s.negative;
      size = h.size;
    }

pub writes_from_whole : (text : List ℕ) (z : ℤ) → whole_of text ≡ Some z → WritesWhole text z
unfolding whole_of
writes_from_whole text z h =
    let body = without_leading_sign text in
    ⊎_elim
    (λ (e : is_hexadecimal body ≡ true).
    let m = mark_split body e in
    let g : whole_from (starts_with_minus text) 16 (drop 2 body) ≡ Some z = rw e at h in
    writes_from_parts text z m.mark (drop 2 body) m.form (from_digits (starts_with_minus text) (base_of m.mark) (drop 2 body) z (rw m.base g)))
    (λ (e : is_hexadecimal body ≡ false).
    let g : whole_from (starts_with_minus text) 10 body ≡ Some z = rw e at h in
    writes_from_parts text z no_mark body refl (from_digits (starts_with_minus text) 10 body z g))
    (cases_Bool (is_hexadecimal body))

pub writes_iff_result : (text : List ℕ) (result : Option ℤ) → result ≡ whole_of text → (z : ℤ) → (result ≡ Some z) ↔ WritesWhole text z
writes_iff_result text result is z = (λ h. writes_from_whole text z (sym is ∙ h), λ w. is ∙ whole_from_writes text z w)
