-- The field at a place of a buffer: a run of bits of the buffer's bytes, or of some of them in reversed
-- order.
use Rattle.std.specs.Prelude.{ℕ, ℤ, ◌≡◌, ◌<◌, ◌+◌, ◌-◌, ◌*◌, ◌/◌, ◌%◌, List, length, take, drop, map, reverse, slice_index, slice_range, if◌then◌else◌}
use Rattle.std.specs.List.{range_with_len}
use Rattle.cts_bits.specs.Bits.{bits_of, number_of_bits, twos_complement}
use Rattle.cts_bits.specs.Places.{is_whole, reach_of, span}
use Rattle.cts_bits.specs.declared.order.Order.{Order}
use Rattle.cts_bits.specs.declared.order.Order.TheVariants.{Big, Little}
use Rattle.cts_bits.specs.declared.place.Place.{Place}

-- The bytes among whose bits the field is one run: of a big-endian field those of the buffer, of
-- little-endian whole bytes those bytes reversed, and of another little-endian field the bytes that it
-- touches, the last of them that of its offset, reversed.
abbrev pub laid_out : Order → ℕ → ℕ → List ℕ → List ℕ
laid_out Big offset bits bytes = bytes
laid_out Little offset bits bytes =
    if is_whole offset bits
    then reverse (slice_range bytes (offset / 8) (offset / 8 + bits / 8))
    else reverse (slice_range bytes (offset / 8 + 1 - span offset bits) (offset / 8 + 1))

-- the first bit of that run
abbrev pub run_start : Order → ℕ → ℕ → ℕ
run_start Big offset bits = offset
run_start Little offset bits = if is_whole offset bits then 0 else offset % 8

-- the number in the field of this order, offset and size
unfoldable pub field_at : Order → ℕ → ℕ → List ℕ → ℕ
field_at order offset bits bytes =
    number_of_bits (take bits (drop (run_start order offset bits) (bits_of (laid_out order offset bits bytes))))

-- The bit of the buffer that is bit j of the field, counted from its most significant one. Bit q of
-- reversed bytes is bit q % 8 of the byte q / 8 before the last.
abbrev pub bit_place_at : Order → ℕ → ℕ → ℕ → ℕ
bit_place_at Big offset bits j = offset + j
bit_place_at Little offset bits j =
    let q = offset % 8 + j in
    8 * (reach_of Little offset bits - 1 - q / 8) + q % 8

-- what a place shows: its offset and size in bits, and the order of its bytes
abbrev pub offset_of : Place → ℕ
offset_of p = p.offset

abbrev pub size_of : Place → ℕ
size_of p = p.bits

abbrev pub order_of : Place → Order
order_of p = p.order

-- how many leading bytes of a buffer hold the field
abbrev pub reach : Place → ℕ
reach p = reach_of p.order p.offset p.bits

-- the number in the field
abbrev pub field : Place → List ℕ → ℕ
field p bytes = field_at p.order p.offset p.bits bytes

-- the signed number in the field
abbrev pub signed_field : Place → List ℕ → ℤ
signed_field p bytes = twos_complement p.bits (field p bytes)

-- where bit j of the field, counted from its most significant one, stands in the buffer's bits
abbrev pub bit_place : Place → ℕ → ℕ
bit_place p j = bit_place_at p.order p.offset p.bits j

-- the bits of the field in order, each taken from where it stands in the buffer
abbrev pub field_bits : Place → List ℕ → List ℕ
field_bits p bytes = map (λ j. slice_index (bits_of bytes) (bit_place p j)) (range_with_len 0 p.bits)

-- bit k of the buffer is a bit of the field
abbrev pub IsFieldBit : Place → ℕ → Type 0
IsFieldBit p k = (j : ℕ) × (j < p.bits) × (k ≡ bit_place p j)

-- no bit of a buffer is in both fields
abbrev pub IsApart : Place → Place → Type 0
IsApart p q = (k : ℕ) → IsFieldBit p k → IsFieldBit q k → ⊥

-- the new bytes differ from the old ones in bits of the field alone
pub record KeepsOtherBits (p : Place) (old new : List ℕ) : Type 0 where
  pub len : length new ≡ length old
  pub others : (k : ℕ) → (IsFieldBit p k → ⊥) → slice_index (bits_of new) k ≡ slice_index (bits_of old) k
