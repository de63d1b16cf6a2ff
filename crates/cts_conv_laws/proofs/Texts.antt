-- The texts of whole numbers.
use Rattle.std.proofs.Common.{◌≡◌, ℕ, suc, pos, negsuc, ◌+◌, ◌-◌, ◌^◌, ◌≤◌, ◌<◌, Bool, true, false, List, [], ◌∷◌, ◌++◌, length, refl, sym, ap, ◌∙◌, arith, unsigned_abs, ℤ, subst}
use Rattle.std.specs.Prelude.{◌==◌, ◌||◌, max, nat_lt, replicate, if◌then◌else◌}
use Rattle.std.specs.Fmt.{char_count, decimal, digits, sign_text_with}
use Rattle.std.specs.Int.{is_negative}
use Rattle.std.specs.List.{list_all}
use Rattle.std.proofs.lemmas.Bool.{and_from, and_parts}
use Rattle.std.proofs.lemmas.Bool.Decides.{nat_tests}
use Rattle.std.proofs.lemmas.List.{append-nil, length-append, length-replicate}
use Rattle.cts_def.specs.FormatParts.{FormatParts}
use Rattle.cts_conv.specs.declared.value.Value.{Value}
use Rattle.cts_conv.specs.Formatting.{cut, directive_text, base_of, digits_in, has_flag, number_filled_up, width_of, with_gap, whole_text}
use Rattle.cts_conv_laws.specs.Numerals.{IsWholeOf, IsFilledUp, IsNumeralOf, PlainWholesMeanTheirNumber, WholeTextsMeanTheirNumber, is_digit_of}
use Rattle.cts_conv_laws.proofs.Numerals.{digits_mean, onto, onto_nothing}

-- ---- characters

-- a character of one byte
abbrev pub is_short : ℕ → Bool
is_short c = nat_lt c 128

-- of such characters there are as many as bytes
pub count_short : (text : List ℕ) → list_all is_short text ≡ true → char_count text ≡ length text
unfolding char_count
count_short [] h = refl
count_short (c ∷ text) h =
    let parts = and_parts (is_short c) (list_all is_short text) h in
    let rest = count_short text parts.1 in
    rw parts.0 (omega (arith, rest))

digit_short : (base : ℕ) (upper : Bool) (c : ℕ) → base ≤ 16 → is_digit_of base upper c ≡ true → is_short c ≡ true
digit_short base true c few h = grind (arith, nat_tests)
digit_short base false c few h = grind (arith, nat_tests)

pub digits_short : (base : ℕ) (upper : Bool) (ds : List ℕ) → base ≤ 16 → list_all (is_digit_of base upper) ds ≡ true → list_all is_short ds ≡ true
digits_short base upper [] few h = refl
digits_short base upper (c ∷ ds) few h =
    let parts = and_parts (is_digit_of base upper c) (list_all (is_digit_of base upper) ds) h in
    and_from (is_short c) (list_all is_short ds) (digit_short base upper c few parts.0) (digits_short base upper ds few parts.1)

-- ---- filling up

-- what stands before, between and after
abbrev form : ℕ → ℕ → ℕ → List ℕ → List ℕ → List ℕ
form before zeros after sign body = replicate before 32 ++ (sign ++ (replicate zeros 48 ++ (body ++ replicate after 32)))

length-form : (before zeros after : ℕ) (sign body : List ℕ) → length (form before zeros after sign body) ≡ before + (length sign + (zeros + (length body + after)))
length-form before zeros after sign body =
    let a = length-append (replicate before 32) (sign ++ (replicate zeros 48 ++ (body ++ replicate after 32))) in
    let b = length-append sign (replicate zeros 48 ++ (body ++ replicate after 32)) in
    let c = length-append (replicate zeros 48) (body ++ replicate after 32) in
    let d = length-append body (replicate after 32) in
    omega (arith, a, b, c, d, length-replicate {A = ℕ} before 32, length-replicate {A = ℕ} zeros 48, length-replicate {A = ℕ} after 32)

record HasGap (gap : ℕ) (sign body text : List ℕ) : Type 0 where
  before : ℕ
  zeros : ℕ
  after : ℕ
  parts : text ≡ form before zeros after sign body
  sum : before + zeros + after ≡ gap

with_one_gap : (gap : ℕ) (left zeros : Bool) (sign body : List ℕ) → HasGap gap sign body (with_gap gap left zeros sign body)
with_one_gap gap true zeros sign body = record { before = 0; zeros = 0; after = gap; parts = refl; sum = omega arith }
with_one_gap gap false true sign body =
    record { before = 0; zeros = gap; after = 0; parts = ap (λ (t : List ℕ). sign ++ (replicate gap 48 ++ t)) (sym (append-nil body)); sum = omega arith }
with_one_gap gap false false sign body =
    record { before = gap; zeros = 0; after = 0; parts = ap (λ (t : List ℕ). replicate gap 32 ++ (sign ++ t)) (sym (append-nil body)); sum = omega arith }

gap_fills : (w s b before between after n : ℕ) → before + between + after ≡ w - (s + b) → n ≡ before + (s + (between + (b + after))) → n ≡ max w (s + b)
gap_fills w s b before between after n gap all = grind (arith, nat_tests)

pub filled_up_so : (p : FormatParts) (negative : Bool) (digits : List ℕ) → list_all is_short digits ≡ true → IsFilledUp p negative digits (number_filled_up p negative digits)
filled_up_so p negative digits short =
    let sign : List ℕ = sign_text_with (has_flag 43 p.flags) negative in
    let g = with_one_gap (width_of p - (length sign + char_count digits)) (has_flag 45 p.flags) (has_flag 48 p.flags) sign digits in
    let count = count_short digits short in
    let long = ap (λ (t : List ℕ). length t) g.parts ∙ length-form g.before g.zeros g.after sign digits in
    let gap : g.before + g.zeros + g.after ≡ width_of p - (length sign + length digits) = g.sum ∙ ap (λ (n : ℕ). width_of p - (length sign + n)) count in
    record {
      before = g.before;
      zeros = g.zeros;
      after = g.after;
      form = g.parts;
      wide = gap_fills (width_of p) (length sign) (length digits) g.before g.zeros g.after (length (number_filled_up p negative digits)) gap long;
    }

-- ---- whole numbers

base_by : (a b c : Bool) → let base : ℕ = (if a then 16 else if b then 8 else if c then 2 else 10) in (2 ≤ base) × (base ≤ 16)
base_by true b c = (omega arith, omega arith)
base_by false true c = (omega arith, omega arith)
base_by false false true = (omega arith, omega arith)
base_by false false false = (omega arith, omega arith)

base_small : (letter : ℕ) → (2 ≤ base_of letter) × (base_of letter ≤ 16)
base_small letter = base_by (letter == 120 || letter == 88) (letter == 111) (letter == 98)

whole_text_means : (p : FormatParts) (z : ℤ) → unsigned_abs z < 2 ^ 128 → IsWholeOf p z (whole_text p z)
whole_text_means p z small =
    let base = base_small p.letter in
    let number = digits_mean (base_of p.letter) (p.letter == 88) (unsigned_abs z) base.0 base.1 small in
    record {
      digits = digits_in (base_of p.letter) (p.letter == 88) (unsigned_abs z);
      number = number;
      shown = filled_up_so p (is_negative z) (digits_in (base_of p.letter) (p.letter == 88) (unsigned_abs z))
          (digits_short (base_of p.letter) (p.letter == 88) (digits_in (base_of p.letter) (p.letter == 88) (unsigned_abs z)) base.1 number.digits);
    }

whole_directive : (p : FormatParts) (v : Value) → (p.letter == 115) ≡ false → (p.letter == 102) ≡ false → directive_text p v ≡ whole_text p (cut v)
whole_directive p v plain fixed = rw (plain, fixed) refl

pub whole_texts_mean : WholeTextsMeanTheirNumber
whole_texts_mean p v plain fixed small = subst (IsWholeOf p (cut v)) (sym (whole_directive p v plain fixed)) (whole_text_means p (cut v) small)

pub decimal_means : (n : ℕ) → n < 2 ^ 128 → IsNumeralOf 10 false n (decimal n)
unfolding digits
decimal_means n small = onto_nothing 10 false n (decimal n) (onto 63 10 n false [] (omega arith) (omega arith) (omega (arith, small)))

not_negative : (n : ℕ) → is_negative (pos n) ≡ false
not_negative n = grind (arith, nat_tests)

pub plain_wholes_mean : PlainWholesMeanTheirNumber
plain_wholes_mean (pos n) small = record { digits = decimal n; number = decimal_means n small; form = ap (λ (b : Bool). sign_text_with false b ++ decimal n) (sym (not_negative n)) }
plain_wholes_mean (negsuc n) small = record { digits = decimal (suc n); number = decimal_means (suc n) small; form = refl }
