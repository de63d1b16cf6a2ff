-- What a word of a site file has to be at its place, and what it then says.
use Rattle.std.specs.Prelude.{ℕ, ℤ, pos, negsuc, ◌%◌, Bool, true, false, ◌&&◌, ◌||◌, ◌==◌, nat_lt, nat_le, int_lt, unsigned_abs, List, [], length}
use Rattle.std.specs.Prelude.{drop, codes, slice_index, Option, Some, None, Result, Ok, Err, is_ok, if◌then◌else◌}
use Rattle.std.specs.Int.{is_negative}
use Rattle.std.specs.List.{list_all, slice_index_or}
use Rattle.std.specs.Str.{bytes_eq}
use Rattle.hex.specs.Hex.{decode_of, is_hex_digit}
use Rattle.hex.specs.declared.error.FromHexError.{FromHexError}
use Rattle.cts_base.specs.declared.decimal.Decimal.{Decimal}
use Rattle.cts_base.specs.declared.decimal.NotDecimal.{NotDecimal}
use Rattle.cts_base.specs.Decimals.{decimal_of}
use Rattle.cts_base.specs.Names.{spells}
use Rattle.cts_base.specs.Wholes.{whole_of}
use Rattle.cts_bits.specs.declared.order.Order.{Order}
use Rattle.cts_bits.specs.declared.order.Order.TheVariants.{Big, Little}
use Rattle.cts_def.specs.declared.proto_spec.Kind.{Kind}
use Rattle.cts_def.specs.declared.proto_spec.Kind.TheVariants as kind
use Rattle.cts_def.specs.Most.{frame_limit, least_cycle, most_cycle, most_desks}
use Rattle.cts_def.specs.Protocols.{is_layout}
use Rattle.cts_plan.specs.declared.words.Way.{Way}
use Rattle.cts_plan.specs.declared.words.Way.TheVariants.{Read, Write, ReadWrite}

-- the word at a place, empty where there is none
abbrev pub word : List (List ℕ) → ℕ → List ℕ
word ws at = slice_index_or ws at []

-- ---- fixed words

abbrev pub is_nil : List ℕ → Bool
is_nil word = bytes_eq word (codes "nil")

abbrev pub flag_of : List ℕ → Option Bool
flag_of word =
    if spells word (codes "TRUE") then Some true
    else if spells word (codes "FALSE") then Some false
    else None

abbrev pub order_of : List ℕ → Option Order
order_of word =
    if bytes_eq word (codes "BIG_ENDIAN") then Some Big
    else if bytes_eq word (codes "LITTLE_ENDIAN") then Some Little
    else None

-- which way a protocol is used
abbrev pub way_of : List ℕ → Option Way
way_of word =
    if bytes_eq word (codes "READ") then Some Read
    else if bytes_eq word (codes "WRITE") then Some Write
    else if bytes_eq word (codes "READ_WRITE") then Some ReadWrite
    else None

abbrev pub way_reads : Way → Bool
way_reads Write = false
way_reads _ = true

abbrev pub way_writes : Way → Bool
way_writes Read = false
way_writes _ = true

-- the layout in which logs are written: `2` or `4`, in no other spelling
abbrev pub log_layout_of : List ℕ → Option ℕ
log_layout_of word =
    if bytes_eq word (codes "2") then Some 2
    else if bytes_eq word (codes "4") then Some 4
    else None

-- one of a protocol's three names
unfoldable pub is_one_of : List ℕ → List ℕ → List ℕ → List ℕ → Bool
is_one_of short class file word = spells word short || spells word class || spells word file

abbrev pub kind_of : List ℕ → Option Kind
kind_of word =
    if is_one_of (codes "BURST") (codes "BURSTPROTOCOL") (codes "BURST_PROTOCOL.RB") word then Some kind.Burst
    else if is_one_of (codes "FIXED") (codes "FIXEDPROTOCOL") (codes "FIXED_PROTOCOL.RB") word then Some kind.Fixed
    else if is_one_of (codes "LENGTH") (codes "LENGTHPROTOCOL") (codes "LENGTH_PROTOCOL.RB") word then Some kind.Length
    else if is_one_of (codes "TERMINATED") (codes "TERMINATEDPROTOCOL") (codes "TERMINATED_PROTOCOL.RB") word then Some kind.Terminated
    else if is_one_of (codes "PREIDENTIFIED") (codes "PREIDENTIFIEDPROTOCOL") (codes "PREIDENTIFIED_PROTOCOL.RB") word then Some kind.Preidentified
    else None

-- ---- numbers

abbrev pub natural_in : ℕ → ℕ → Option ℤ → Option ℕ
natural_in least most None = None
natural_in least most (Some z) =
    if is_negative z || nat_lt (unsigned_abs z) least || nat_lt most (unsigned_abs z) then None else Some (unsigned_abs z)

-- the whole number that the word writes, where it lies between `least` and `most`
abbrev pub natural : ℕ → ℕ → List ℕ → Option ℕ
natural least most word = natural_in least most (whole_of word)

abbrev pub port_of : List ℕ → Option ℕ
port_of word = natural 1 65535 word

abbrev pub desks_of : List ℕ → Option ℕ
desks_of word = natural 1 most_desks word

-- a number of bytes within the greatest frame
abbrev pub size_of : List ℕ → Option ℕ
size_of word = natural 0 frame_limit word

-- an offset or size in bits
abbrev pub bits_of : List ℕ → Option ℕ
bits_of word = natural 0 8388608 word

abbrev pub per_count_of : List ℕ → Option ℕ
per_count_of word = natural 1 65535 word

-- the greatest count, none where the word is `nil`
abbrev pub max_of : List ℕ → Option ℕ
max_of word = natural 0 18446744073709551615 word

-- the layout of heads that a number is
abbrev pub layout_in : Option ℕ → Option ℕ
layout_in None = None
layout_in (Some n) = if is_layout n then Some n else None

-- a layout of heads, as a number
abbrev pub layout_of : List ℕ → Option ℕ
layout_of word = layout_in (natural 2 4 word)

-- the greatest size of a part of a log
abbrev pub cycle_of : List ℕ → Option ℕ
cycle_of word = natural least_cycle most_cycle word

abbrev pub signed_in : Option ℤ → Option ℤ
signed_in None = None
signed_in (Some z) = if int_lt z (negsuc 2147483647) || int_lt (pos 2147483647) z then None else Some z

-- a whole number of 32 bits
abbrev pub signed_of : List ℕ → Option ℤ
signed_of word = signed_in (whole_of word)

abbrev pub is_decimal : List ℕ → Bool
is_decimal word = is_ok (decimal_of word)

abbrev pub delay_in : Result Decimal NotDecimal → Option Decimal
delay_in (Err e) = None
delay_in (Ok d) = if is_negative d.parts then None else Some d

-- seconds, not below 0
abbrev pub delay_of : List ℕ → Option Decimal
delay_of word = delay_in (decimal_of word)

-- ---- patterns

-- what follows a lower-case `0x`
abbrev pub hex_digits : List ℕ → Option (List ℕ)
hex_digits word =
    if nat_le 2 (length word) && slice_index word 0 == 48 && slice_index word 1 == 120 then Some (drop 2 word) else None

-- an even number of hexadecimal digits, of at most 64 bytes
abbrev pub are_byte_digits : Option (List ℕ) → Bool
are_byte_digits None = false
are_byte_digits (Some digits) = length digits % 2 == 0 && nat_le (length digits) 128 && list_all is_hex_digit digits

abbrev pub is_pattern_word : List ℕ → Bool
is_pattern_word word = is_nil word || are_byte_digits (hex_digits word)

abbrev pub few_bytes : Result (List ℕ) FromHexError → List ℕ
few_bytes (Err e) = []
few_bytes (Ok bytes) = if nat_le (length bytes) 64 then bytes else []

abbrev pub bytes_in : Option (List ℕ) → List ℕ
bytes_in None = []
bytes_in (Some digits) = few_bytes (decode_of digits)

-- the bytes of a pattern, none of `nil`
abbrev pub pattern_of : List ℕ → List ℕ
pattern_of word = bytes_in (hex_digits word)

-- `0x` without digits
abbrev pub is_empty_pattern : List ℕ → Bool
is_empty_pattern word = bytes_eq word (codes "0x")
