-- Bytes as their bits, and bits as numbers.
use Rattle.std.specs.Prelude.{ℕ, ℤ, pos, neg_ℤ, ◌-ℤ◌, ◌≤ℤ◌, ◌<ℤ◌, ◌-◌, ◌^◌, List, [], ◌∷◌, nat_lt, if◌then◌else◌}
use Rattle.std.specs.Int.{bit_at}
use Rattle.std.specs.Int.Digits.{number_from_digits}
use Rattle.std.specs.List.{flat_map}

-- the bits of a byte, the most significant first
abbrev pub byte_bits : ℕ → List ℕ
byte_bits b =
    bit_at b 7 ∷ bit_at b 6 ∷ bit_at b 5 ∷ bit_at b 4 ∷ bit_at b 3 ∷ bit_at b 2 ∷ bit_at b 1 ∷ bit_at b 0 ∷ []

-- the bits of bytes: bit 0 is the most significant of byte 0
unfoldable pub bits_of : List ℕ → List ℕ
bits_of bytes = flat_map byte_bits bytes

-- the number that bits spell, the first one the most significant
abbrev pub number_of_bits : List ℕ → ℕ
number_of_bits bits = number_from_digits 2 bits

-- what x, a number of n bits, spells in two's complement
abbrev pub twos_complement : ℕ → ℕ → ℤ
twos_complement n x = if nat_lt x (2 ^ (n - 1)) then pos x else pos x -ℤ pos (2 ^ n)

-- z has a spelling in n bits of two's complement
abbrev pub HasSpelling : ℕ → ℤ → Type 0
HasSpelling n z = (neg_ℤ (pos (2 ^ (n - 1))) ≤ℤ z) × (z <ℤ pos (2 ^ (n - 1)))
