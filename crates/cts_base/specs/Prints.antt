-- How a decimal is printed: a `-` where it is negative, the whole part, a point, and the fraction without trailing zeros
-- but with one digit at least.
use Rattle.std.specs.Prelude.{◌≡◌, ℕ, zero, suc, ◌+◌, ◌-◌, ◌*◌, ◌/◌, ◌%◌, ◌^◌, ◌≤◌, Bool, List, [], ◌∷◌, ◌++◌, length, take, drop, ℤ, pos, negsuc}
use Rattle.std.specs.Prelude.{unsigned_abs, ◌==◌, slice_index, IsTrue}
use Rattle.std.specs.Fmt.{decimal}
use Rattle.std.specs.List.{suffix_len}
use Rattle.std.specs.Str.Parse.{digits_value}
use Rattle.cts_base.specs.Digits.{is_numeral}
use Rattle.cts_base.specs.Signs.{Sign, sign_text}
use Rattle.cts_base.specs.Signs.Sign.{absent, minus}

-- a printed number has no `+`
abbrev pub sign_of : ℤ → Sign
sign_of (pos n) = absent
sign_of (negsuc n) = minus

-- the text is the decimal of these parts, with no digit more than it needs
pub record PrintsDecimal (parts : ℤ) (text : List ℕ) : Type 0 where
  pub whole : ℕ
  pub fraction : List ℕ
  pub form : text ≡ sign_text (sign_of parts) ++ (decimal whole ++ (46 ∷ fraction))
  pub digits : IsTrue (is_numeral 10 fraction)
  pub few : length fraction ≤ 12
  pub value : unsigned_abs parts ≡ whole * 10 ^ 12 + digits_value 10 fraction * 10 ^ (12 - length fraction)
  -- the last digit is a zero only where it is the only one
  pub shortest : slice_index fraction (length fraction - 1) ≡ 48 → length fraction ≡ 1

-- the last k digits of n, the highest first
unfoldable pub last_digits : ℕ → ℕ → List ℕ
last_digits zero n = []
last_digits (suc k) n = last_digits k (n / 10) ++ ((48 + n % 10) ∷ [])

abbrev pub is_zero_digit : ℕ → Bool
is_zero_digit c = c == 48

-- the digits up to the last that is not zero
abbrev pub without_trailing_zeros : List ℕ → List ℕ
without_trailing_zeros ds = take (length ds - suffix_len is_zero_digit ds) ds

-- the digits after the point: the first of twelve, and the others up to the last that is not zero
unfoldable pub fraction_text : ℕ → List ℕ
fraction_text n = take 1 (last_digits 12 n) ++ without_trailing_zeros (drop 1 (last_digits 12 n))

-- the text of the decimal of these parts
unfoldable pub decimal_text : ℤ → List ℕ
decimal_text parts =
    sign_text (sign_of parts) ++ (decimal (unsigned_abs parts / 10 ^ 12) ++ (46 ∷ fraction_text (unsigned_abs parts % 10 ^ 12)))
