-- What a word of a script says by itself.
use Rattle.std.specs.Prelude.{ℕ, ◌%◌, ℤ, Bool, ◌==◌, ◌&&◌, ◌||◌, nat_lt, nat_le, unsigned_abs, List, length, codes, Option, Some, None}
use Rattle.std.specs.Prelude.{option_and_then, unwrap_or, if◌then◌else◌}
use Rattle.std.specs.Int.{is_negative}
use Rattle.std.specs.List.{list_all}
use Rattle.std.specs.Result.{result_ok}
use Rattle.std.specs.Str.{bytes_eq}
use Rattle.hex.specs.Hex.{decode_of, hex_digit_value, is_hex_digit}
use Rattle.cts_base.specs.Wholes.{whole_of}
use Rattle.cts_entry.specs.declared.why.Why.{Why}
use Rattle.cts_entry.specs.declared.why.Why.TheVariants.{PeerEnded, ReadFault, WriteFault, Stopped}

-- ---- numbers

abbrev pub natural_in : ℕ → Option ℤ → Option ℕ
natural_in most None = None
natural_in most (Some z) = if is_negative z || nat_lt most (unsigned_abs z) then None else Some (unsigned_abs z)

-- the whole number of 0 to 4,294,967,295 that the word writes: seconds, micros or a desk
unfoldable pub number_of : List ℕ → Option ℕ
number_of word = natural_in 4294967295 (whole_of word)

-- the whole number of 0 to 2^64 - 1 that the word writes: a count
unfoldable pub count_of : List ℕ → Option ℕ
count_of word = natural_in 18446744073709551615 (whole_of word)

-- ---- bytes

-- hexadecimal digits, two for each byte
abbrev pub are_byte_digits : List ℕ → Bool
are_byte_digits word = length word % 2 == 0 && list_all is_hex_digit word

-- a piece has 1 to 65,536 bytes
abbrev pub is_piece_size : ℕ → Bool
is_piece_size size = nat_le 1 size && nat_le size 65536

abbrev pub if_piece : List ℕ → Option (List ℕ)
if_piece bytes = if is_piece_size (length bytes) then Some bytes else None

-- the piece that the digits of the word write
abbrev pub piece_of : List ℕ → Option (List ℕ)
piece_of word = option_and_then if_piece (result_ok (decode_of word))

-- the value of a hexadecimal digit in either case, and 255 of a byte that is none
abbrev pub value_or_none : ℕ → ℕ
value_or_none digit = unwrap_or (hex_digit_value digit) 255

-- ---- fixed words

-- why a connection ends
abbrev pub why_of : List ℕ → Option Why
why_of word =
    if bytes_eq word (codes "PEER") then Some PeerEnded
    else if bytes_eq word (codes "READ") then Some ReadFault
    else if bytes_eq word (codes "WRITE") then Some WriteFault
    else if bytes_eq word (codes "STOP") then Some Stopped
    else None

-- the word that stands for the logs
abbrev pub is_log : List ℕ → Bool
is_log word = bytes_eq word (codes "LOG")
