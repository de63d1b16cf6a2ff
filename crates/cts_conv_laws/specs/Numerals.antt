-- Numbers as they are read from their digits.
use Rattle.std.specs.Prelude.{◌≡◌, ℕ, ℤ, ◌+◌, ◌-◌, ◌/◌, ◌^◌, ◌≤◌, ◌<◌, max, Bool, false, not, ◌&&◌, ◌||◌, ◌==◌, nat_le, nat_lt, true, List, [], ◌∷◌}
use Rattle.std.specs.Prelude.{◌++◌, length, replicate, slice_index, unsigned_abs, IsTrue, if◌then◌else◌}
use Rattle.std.specs.Fmt.{sign_text_with}
use Rattle.std.specs.Int.{is_negative}
use Rattle.std.specs.List.{list_all}
use Rattle.std.specs.Str.Parse.{digits_value}
use Rattle.cts_def.specs.FormatParts.{FormatParts}
use Rattle.cts_conv.specs.Formatting.{base_of, cut, digits_in, directive_text, fixed_digits, has_flag, parts_in, precision_of, rounded, width_of}
use Rattle.cts_conv.specs.Plains.{plain_text}
use Rattle.cts_conv.specs.declared.value.Value.{Value}
use Rattle.cts_conv.specs.declared.value.Value.TheVariants.{Whole}

-- ---- digits

-- `A` or `a`, the digit that is worth 10
abbrev pub first_letter : Bool → ℕ
first_letter upper = if upper then 65 else 97

-- a digit of a base: one of `0` to `9`, or a letter of the case, and worth less than the base
abbrev pub is_digit_of : ℕ → Bool → ℕ → Bool
is_digit_of base upper c =
    (nat_le 48 c && nat_le c 57 && nat_lt (c - 48) base) || (nat_le (first_letter upper) c && nat_lt (c - first_letter upper + 10) base)

-- The text is a number in a base: digits of it with letters of one case, which are read back as the number. A zero stands
-- first only where it is the only digit.
pub record IsNumeralOf (base : ℕ) (upper : Bool) (n : ℕ) (text : List ℕ) : Type 0 where
  pub some : 1 ≤ length text
  pub digits : IsTrue (list_all (is_digit_of base upper) text)
  pub value : digits_value base text ≡ n
  pub no_leading_zero : slice_index text 0 ≡ 48 → text ≡ 48 ∷ []

-- The digits of a number in a base mean the number.
abbrev pub DigitsMeanTheirNumber : Type 0
DigitsMeanTheirNumber = (base : ℕ) (upper : Bool) (n : ℕ) → 2 ≤ base → base ≤ 16 → n < 2 ^ 128 → IsNumeralOf base upper n (digits_in base upper n)

-- No other digits mean it.
abbrev pub NoOtherDigitsMeanIt : Type 0
NoOtherDigitsMeanIt = (base : ℕ) (upper : Bool) (n : ℕ) (text : List ℕ) → 2 ≤ base → base ≤ 16 → n < 2 ^ 128 → IsNumeralOf base upper n text
    → text ≡ digits_in base upper n

-- ---- how a format fills up

-- The text is the sign that the number and the format ask for and the digits after it, with zeros between the two or spaces round
-- them. It is as long as the format's width, or as sign and digits where they are longer.
pub record IsFilledUp (p : FormatParts) (negative : Bool) (digits text : List ℕ) : Type 0 where
  pub before : ℕ
  pub zeros : ℕ
  pub after : ℕ
  pub form : text ≡ replicate before 32 ++ (sign_text_with (has_flag 43 p.flags) negative ++ (replicate zeros 48 ++ (digits ++ replicate after 32)))
  pub wide : length text ≡ max (width_of p) (length (sign_text_with (has_flag 43 p.flags) negative) + length digits)

-- ---- whole numbers

-- The text of a whole number by a format: the digits of its magnitude in the base of the format's letter, with letters in
-- upper case where that is `X`.
pub record IsWholeOf (p : FormatParts) (z : ℤ) (text : List ℕ) : Type 0 where
  pub digits : List ℕ
  pub number : IsNumeralOf (base_of p.letter) (p.letter == 88) (unsigned_abs z) digits
  pub shown : IsFilledUp p (is_negative z) digits text

-- A format of another letter than `s` and `f` gives the number, cut toward zero.
abbrev pub WholeTextsMeanTheirNumber : Type 0
WholeTextsMeanTheirNumber = (p : FormatParts) (v : Value) → (p.letter == 115) ≡ false → (p.letter == 102) ≡ false → unsigned_abs (cut v) < 2 ^ 128
    → IsWholeOf p (cut v) (directive_text p v)

-- The plain text of a whole number: a `-` where it is negative, and the digits of its magnitude in base 10.
pub record IsPlainOf (z : ℤ) (text : List ℕ) : Type 0 where
  pub digits : List ℕ
  pub number : IsNumeralOf 10 false (unsigned_abs z) digits
  pub form : text ≡ sign_text_with false (is_negative z) ++ digits

abbrev pub PlainWholesMeanTheirNumber : Type 0
PlainWholesMeanTheirNumber = (z : ℤ) → unsigned_abs z < 2 ^ 128 → IsPlainOf z (plain_text (Whole z))

-- ---- decimals

-- a point and the digits after it, where there are some
abbrev pub with_point : List ℕ → List ℕ
with_point [] = []
with_point (d ∷ ds) = 46 ∷ d ∷ ds

-- The text is n units of 10 ^ -count: a whole number, a point, and as many digits as count says, or no point where count is 0.
-- All digits together are read as n.
pub record IsFixedOf (count n : ℕ) (text : List ℕ) : Type 0 where
  pub whole : List ℕ
  pub fraction : List ℕ
  pub form : text ≡ whole ++ with_point fraction
  pub number : IsNumeralOf 10 false (n / 10 ^ count) whole
  pub digits : IsTrue (list_all (is_digit_of 10 false) fraction)
  pub exact : length fraction ≡ count
  pub value : digits_value 10 (whole ++ fraction) ≡ n

abbrev pub FixedDigitsMeanTheirNumber : Type 0
FixedDigitsMeanTheirNumber = (count n : ℕ) → n < 2 ^ 128 → IsFixedOf count n (fixed_digits count n)

-- The text of a number of parts by `f`: the nearest number of units of 10 ^ -count, which has no `-` where it is zero.
pub record IsDecimalOf (p : FormatParts) (count : ℕ) (parts : ℤ) (text : List ℕ) : Type 0 where
  pub digits : List ℕ
  pub number : IsFixedOf count (rounded count (unsigned_abs parts)) digits
  pub shown : IsFilledUp p (is_negative parts && not (rounded count (unsigned_abs parts) == 0)) digits text

-- A format of `f` gives the number with as many digits after the point as its precision says.
abbrev pub DecimalTextsMeanTheirNumber : Type 0
DecimalTextsMeanTheirNumber = (p : FormatParts) (v : Value) → (p.letter == 102) ≡ true → precision_of p.precision ≤ 12 → unsigned_abs (parts_in v) ≤ 2 ^ 127
    → IsDecimalOf p (precision_of p.precision) (parts_in v) (directive_text p v)
