-- Whole numbers: an optional sign, and decimal digits, or `0x` in any case and hexadecimal digits.
use Rattle.std.specs.Prelude.{◌≡◌, ℕ, ◌^◌, Bool, ◌&&◌, ◌||◌, List, [], ◌∷◌, ◌++◌, drop, ℤ, pos, negsuc, Option, Some, None, nat_lt, ◌==◌, slice_index}
use Rattle.std.specs.Prelude.{if◌then◌else◌, IsTrue}
use Rattle.std.specs.Str.Parse.{digits_value, without_leading_sign, starts_with_minus}
use Rattle.cts_base.specs.Digits.{is_numeral}
use Rattle.cts_base.specs.Signs.{Sign, sign_text, is_minus, with_sign}

-- what stands before the digits, and tells their base
pub data Mark : Type 0 where
  no_mark : Mark
  lower_x : Mark
  upper_x : Mark

-- nothing, `0x` or `0X`
abbrev pub mark_text : Mark → List ℕ
mark_text no_mark = []
mark_text lower_x = 48 ∷ 120 ∷ []
mark_text upper_x = 48 ∷ 88 ∷ []

abbrev pub base_of : Mark → ℕ
base_of no_mark = 10
base_of lower_x = 16
base_of upper_x = 16

-- from -2^63 to 2^64 - 1
abbrev pub is_whole_size : ℤ → Bool
is_whole_size (pos n) = nat_lt n (2 ^ 64)
is_whole_size (negsuc n) = nat_lt n (2 ^ 63)

-- the text writes this number, which has a whole number's size
pub record WritesWhole (text : List ℕ) (number : ℤ) : Type 0 where
  pub sign : Sign
  pub mark : Mark
  pub digits : List ℕ
  pub form : text ≡ sign_text sign ++ (mark_text mark ++ digits)
  pub numeral : IsTrue (is_numeral (base_of mark) digits)
  pub value : number ≡ with_sign (is_minus sign) (digits_value (base_of mark) digits)
  pub size : IsTrue (is_whole_size number)

-- the text begins with `0x` in any case
abbrev pub is_hexadecimal : List ℕ → Bool
is_hexadecimal text = slice_index text 0 == 48 && (slice_index text 1 == 120 || slice_index text 1 == 88)

-- the number of these digits, where they have the form and it the size
abbrev pub whole_from : Bool → ℕ → List ℕ → Option ℤ
whole_from negative base digits =
    let number = with_sign negative (digits_value base digits) in
    if is_numeral base digits && is_whole_size number then Some number else None

-- the number that a text without its sign writes
abbrev pub unsigned_whole : Bool → List ℕ → Option ℤ
unsigned_whole negative text =
    if is_hexadecimal text then whole_from negative 16 (drop 2 text) else whole_from negative 10 text

-- the number that a text writes, and none where it has another form or the number another size
unfoldable pub whole_of : List ℕ → Option ℤ
whole_of text = unsigned_whole (starts_with_minus text) (without_leading_sign text)
