-- Decimals in parts of 10^-12: an optional sign, digits, and optionally a point and digits.
use Rattle.std.specs.Prelude.{◌≡◌, ℕ, ◌+◌, ◌-◌, ◌*◌, ◌^◌, ◌<◌, ◌≤◌, Bool, ◌&&◌, ◌||◌, not, ◌⊎◌, List, [], ◌∷◌, ◌++◌, length, ℤ, Result, Ok, Err}
use Rattle.std.specs.Prelude.{nat_lt, nat_le, ◌==◌, if◌then◌else◌, IsTrue}
use Rattle.std.specs.List.{before_first, after_first, position_or_len, list_all}
use Rattle.std.specs.Char.{is_digit}
use Rattle.std.specs.Str.Parse.{digits_value, without_leading_sign, starts_with_minus}
use Rattle.cts_base.specs.Digits.{is_numeral}
use Rattle.cts_base.specs.Signs.{Sign, sign_text, is_minus, with_sign}
use Rattle.cts_base.specs.declared.decimal.Decimal.{Decimal}
use Rattle.cts_base.specs.declared.decimal.NotDecimal.{NotDecimal}
use Rattle.cts_base.specs.declared.decimal.NotDecimal.TheVariants.{Form, TooManyDigits}

-- what stands after the digits of the whole part: a point and the digits of the fraction, or nothing where there are none
abbrev pub point_text : List ℕ → List ℕ
point_text [] = []
point_text (c ∷ cs) = 46 ∷ c ∷ cs

-- the text has the form of a decimal
pub record HasDecimalForm (text : List ℕ) : Type 0 where
  pub sign : Sign
  pub whole : List ℕ
  pub fraction : List ℕ
  pub form : text ≡ sign_text sign ++ (whole ++ point_text fraction)
  pub whole_digits : IsTrue (is_numeral 10 whole)
  pub fraction_digits : IsTrue (list_all (λ c. is_digit c 10) fraction)

-- the parts of a decimal with these digits, where the fraction has at most 12
abbrev pub parts_of : Bool → List ℕ → List ℕ → ℤ
parts_of negative whole fraction =
    with_sign negative (digits_value 10 whole * 10 ^ 12 + digits_value 10 fraction * 10 ^ (12 - length fraction))

-- the text writes a decimal of these parts, with at most 25 digits before the point and at most 12 after it
pub record WritesDecimal (text : List ℕ) (parts : ℤ) : Type 0 where
  pub written : HasDecimalForm text
  pub whole_length : length written.whole ≤ 25
  pub fraction_length : length written.fraction ≤ 12
  pub value : parts ≡ parts_of (is_minus written.sign) written.whole written.fraction

-- the text has the form of a decimal, and more digits than one may have
pub record HasTooManyDigits (text : List ℕ) : Type 0 where
  pub written : HasDecimalForm text
  pub many : (25 < length written.whole) ⊎ (12 < length written.fraction)

abbrev pub is_point : ℕ → Bool
is_point c = c == 46

-- a point stands in the text
abbrev pub has_point : List ℕ → Bool
has_point text = nat_lt (position_or_len is_point text) (length text)

-- a text without its sign has the form of a decimal
abbrev pub is_unsigned_decimal : List ℕ → Bool
is_unsigned_decimal text =
    is_numeral 10 (before_first is_point text) && (not (has_point text) || is_numeral 10 (after_first is_point text))

-- the decimal with these digits
abbrev pub decimal_from : Bool → List ℕ → List ℕ → Result Decimal NotDecimal
decimal_from negative whole fraction =
    if nat_le (length whole) 25 && nat_le (length fraction) 12 then Ok (record { parts = parts_of negative whole fraction }) else Err TooManyDigits

-- the decimal that a text without its sign writes
abbrev pub unsigned_decimal : Bool → List ℕ → Result Decimal NotDecimal
unsigned_decimal negative text =
    if is_unsigned_decimal text then decimal_from negative (before_first is_point text) (after_first is_point text) else Err Form

-- the decimal that a text writes, or why it writes none
unfoldable pub decimal_of : List ℕ → Result Decimal NotDecimal
decimal_of text = unsigned_decimal (starts_with_minus text) (without_leading_sign text)
