-- The numbers that words spell, where a definition asks for one. A word that spells none reads as 0 or as the
-- first choice, and nothing uses that: its statement is refused.
use Rattle.std.specs.Prelude.{ℕ, ℤ, pos, neg_ℤ, ◌-◌, ◌^◌, Bool, ◌&&◌, ◌||◌, int_le, unsigned_abs, List, [], ◌∷◌, codes, Option, Some, None}
use Rattle.std.specs.Prelude.{option_map, is_some, unwrap_or, find, Result, Ok, Err, if◌then◌else◌}
use Rattle.cts_base.specs.Wholes.{whole_of}
use Rattle.cts_base.specs.Decimals.{decimal_of}
use Rattle.cts_base.specs.declared.decimal.Decimal.{Decimal}
use Rattle.cts_base.specs.declared.decimal.NotDecimal.{NotDecimal}
use Rattle.cts_bits.specs.declared.order.Order.{Order}
use Rattle.cts_bits.specs.declared.order.Order.TheVariants.{Big, Little}
use Rattle.cts_def.specs.declared.item_kind.ItemKind.{ItemKind}
use Rattle.cts_def.specs.declared.item_kind.ItemKind.TheVariants.{Uint, Int, Str, Block}
use Rattle.cts_def.specs.Items.{is_same}

-- ---- numbers

abbrev pub whole : List ℕ → ℤ
whole word = unwrap_or (whole_of word) (pos 0)

abbrev pub decimal_or_zero : Result Decimal NotDecimal → Decimal
decimal_or_zero (Ok d) = d
decimal_or_zero (Err e) = record { parts = pos 0 }

abbrev pub decimal : List ℕ → Decimal
decimal word = decimal_or_zero (decimal_of word)

-- the bounds of the types, by their words
abbrev pub bounds : List (List ℕ × ℤ)
bounds =
    (codes "MIN_UINT8", pos 0) ∷ (codes "MAX_UINT8", pos 255)
    ∷ (codes "MIN_UINT16", pos 0) ∷ (codes "MAX_UINT16", pos 65535)
    ∷ (codes "MIN_UINT32", pos 0) ∷ (codes "MAX_UINT32", pos 4294967295)
    ∷ (codes "MIN_UINT64", pos 0) ∷ (codes "MAX_UINT64", pos 18446744073709551615)
    ∷ (codes "MIN_INT8", neg_ℤ (pos 128)) ∷ (codes "MAX_INT8", pos 127)
    ∷ (codes "MIN_INT16", neg_ℤ (pos 32768)) ∷ (codes "MAX_INT16", pos 32767)
    ∷ (codes "MIN_INT32", neg_ℤ (pos 2147483648)) ∷ (codes "MAX_INT32", pos 2147483647)
    ∷ (codes "MIN_INT64", neg_ℤ (pos 9223372036854775808)) ∷ (codes "MAX_INT64", pos 9223372036854775807) ∷ []

abbrev pub named_bound : List ℕ → Option ℤ
named_bound word = option_map (λ (b : List ℕ × ℤ). b.1) (find (λ (b : List ℕ × ℤ). is_same word b.0) bounds)

-- a number of bits that a number of a definition may have
abbrev pub is_size : ℤ → Bool
is_size size = int_le (pos 1) size && int_le size (pos 64)

-- the least and the greatest number of this kind and size, and 0 where there is no such number
abbrev pub least_number : ItemKind → ℤ → ℤ
least_number Int size = if is_size size then neg_ℤ (pos (2 ^ (unsigned_abs size - 1))) else pos 0
least_number _ size = pos 0

abbrev pub greatest_number : ItemKind → ℤ → ℤ
greatest_number Uint size = if is_size size then pos (2 ^ unsigned_abs size - 1) else pos 0
greatest_number Int size = if is_size size then pos (2 ^ (unsigned_abs size - 1) - 1) else pos 0
greatest_number _ size = pos 0

-- a whole number, or a word for a bound of a type of 8, 16, 32 or 64 bits
abbrev pub is_bound_of_types : List ℕ → Bool
is_bound_of_types word = is_some (whole_of word) || is_some (named_bound word)

-- the same, or a word for a bound of the item's own type and size, of which texts and blocks have none
abbrev pub is_bound : List ℕ → Bool
is_bound word = is_bound_of_types word || is_same word (codes "MIN") || is_same word (codes "MAX")

abbrev pub bound : ItemKind → ℤ → List ℕ → ℤ
bound kind size word =
    if is_same word (codes "MIN") then least_number kind size
    else if is_same word (codes "MAX") then greatest_number kind size
    else unwrap_or (named_bound word) (whole word)

-- from 1 to 4,294,967,295
abbrev pub is_count : ℤ → Bool
is_count z = int_le (pos 1) z && int_le z (pos 4294967295)

abbrev pub count_in : Option ℤ → Option ℕ
count_in None = None
count_in (Some z) = if is_count z then Some (unsigned_abs z) else None

abbrev pub persistence_of : List ℕ → Option ℕ
persistence_of word = count_in (whole_of word)

abbrev pub persistence : List ℕ → ℕ
persistence word = unwrap_or (persistence_of word) 1

-- ---- fixed words

abbrev pub order_of : List ℕ → Option Order
order_of word =
    if is_same word (codes "BIG_ENDIAN") then Some Big
    else if is_same word (codes "LITTLE_ENDIAN") then Some Little
    else None

abbrev pub kind_of : List ℕ → Option ItemKind
kind_of word =
    if is_same word (codes "UINT") then Some Uint
    else if is_same word (codes "INT") then Some Int
    else if is_same word (codes "STRING") then Some Str
    else if is_same word (codes "BLOCK") then Some Block
    else None
