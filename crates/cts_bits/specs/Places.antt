-- Where a field lies in a buffer, and which places are refused. Offsets and sizes count bits, and bit 0
-- of a buffer is the most significant bit of its byte 0. The rules are those that the documentation of
-- COSMOS 4 gives for bit offsets in both orders.
use Rattle.std.specs.Prelude.{ℕ, Bool, not, ◌&&◌, ◌||◌, ◌==◌, nat_lt, ◌+◌, ◌-◌, ◌/◌, ◌%◌, false, IsTrue, if◌then◌else◌}
use Rattle.cts_bits.specs.declared.order.Order.{Order}
use Rattle.cts_bits.specs.declared.order.Order.TheVariants.{Big, Little}

-- whole bytes of a machine's number: at a byte boundary, with 8, 16, 32 or 64 bits
abbrev pub is_whole : ℕ → ℕ → Bool
is_whole offset bits = (offset % 8 == 0) && ((bits == 8) || (bits == 16) || (bits == 32) || (bits == 64))

-- the first bit that no field reaches: 1,048,576 bytes from the start
abbrev pub last_place : ℕ
last_place = 8388608

-- how many bytes the bits of a field touch
abbrev pub span : ℕ → ℕ → ℕ
span offset bits = (offset % 8 + bits - 1) / 8 + 1

-- ---- which places are refused

-- no size of a field, or past the last place that a field may reach
abbrev pub is_bad_size : ℕ → ℕ → Bool
is_bad_size offset bits = bits == 0 || nat_lt 64 bits || nat_lt last_place (offset + bits)

-- A little-endian bit field ends in the byte of its offset, and begins span - 1 bytes before it. This
-- one would begin before byte 0.
abbrev pub is_before_start : Order → ℕ → ℕ → Bool
is_before_start Big offset bits = false
is_before_start Little offset bits = not (is_whole offset bits) && nat_lt (offset / 8 + 1) (span offset bits)

-- no field may lie there
abbrev pub is_refused : Order → ℕ → ℕ → Bool
is_refused order offset bits = is_bad_size offset bits || is_before_start order offset bits

abbrev pub IsBadSize : ℕ → ℕ → Type 0
IsBadSize offset bits = IsTrue (is_bad_size offset bits)

abbrev pub IsBeforeStart : Order → ℕ → ℕ → Type 0
IsBeforeStart order offset bits = IsTrue (is_before_start order offset bits)

-- how many leading bytes of a buffer hold the field
abbrev pub reach_of : Order → ℕ → ℕ → ℕ
reach_of Big offset bits = (offset + bits + 7) / 8
reach_of Little offset bits = if is_whole offset bits then offset / 8 + bits / 8 else offset / 8 + 1
