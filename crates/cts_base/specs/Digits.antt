-- Digits: the texts of digits in a base. The number that they write is std's `digits_value`.
use Rattle.std.specs.Prelude.{ℕ, Bool, ◌&&◌, List, length, nat_lt}
use Rattle.std.specs.List.{list_all}
use Rattle.std.specs.Char.{is_digit}

-- one digit of the base or more, and nothing else
abbrev pub is_numeral : ℕ → List ℕ → Bool
is_numeral base text = nat_lt 0 (length text) && list_all (λ c. is_digit c base) text
