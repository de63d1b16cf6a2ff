-- The bytes that hold a field, as one number.
use Rattle.std.specs.Prelude.{ℕ, ◌+◌, ◌-◌, ◌*◌, ◌/◌, ◌%◌, ◌^◌, List, reverse}
use Rattle.std.specs.Int.Digits.{number_from_digits}
use Rattle.cts_bits.specs.Places.{span}
use Rattle.cts_bits.specs.declared.order.Order.{Order}
use Rattle.cts_bits.specs.declared.order.Order.TheVariants.{Big, Little}

-- bytes as a field of this order reads them, the most significant first
abbrev pub in_order : Order → List ℕ → List ℕ
in_order Big bytes = bytes
in_order Little bytes = reverse bytes

-- where the i-th of n bytes, as a field reads them, stands in the buffer's order
abbrev pub turned : Order → ℕ → ℕ → ℕ
turned Big n i = i
turned Little n i = n - 1 - i

-- the number of bytes as a field reads them
unfoldable pub number_in : Order → List ℕ → ℕ
number_in order bytes = number_from_digits 256 (in_order order bytes)

-- how many bits stand after the field in its bytes, as it reads them
abbrev pub tail_of : ℕ → ℕ → ℕ
tail_of offset bits = 8 * span offset bits - (offset % 8 + bits)

-- a number with other bits in place of the n bits that have t bits below them
abbrev pub replaced : ℕ → ℕ → ℕ → ℕ → ℕ
replaced number t n value = (number / 2 ^ (t + n) * 2 ^ n + value) * 2 ^ t + number % 2 ^ t
