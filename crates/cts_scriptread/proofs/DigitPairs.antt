-- One pass over pairs of digits, whose values are kept also where they are none: the greatest value tells in the end.
use Rattle.std.proofs.Common.{◌≡◌, ◌∙◌, ℕ, ◌+◌, ◌*◌, ◌/◌, ◌%◌, ◌<◌, ◌≤◌, max, ◌⊎◌, inl, inr, true, false, List, length, take, drop, slice_index, slice_set, Option, Some, None, Result, Ok, Err, refl, sym, ap, arith}
use Rattle.std.specs.Prelude.{unwrap_or, option_and_then}
use Rattle.std.specs.Result.{result_ok}
use Rattle.hex.specs.Hex.{decode_of, decode_pairs, digit_or_error, hex_digit_value, pair_value, ◌>>=◌}
use Rattle.hex.specs.declared.error.FromHexError.{FromHexError}
use Rattle.hex.proofs.HexLemmas.{decode_of-even, decode_of-ok}
use Rattle.hex.proofs.Pairs.{prepend, decode_start, decode_step, decode_done, decode_err}
use Rattle.std.proofs.lemmas.Bool.{cases_lt}
use Rattle.std.proofs.lemmas.List.{length-set}
use Rattle.cts_scriptread.specs.Words.{value_or_none, is_piece_size, if_piece, piece_of}

-- a value that is one
value_is : (o : Option ℕ) (v : ℕ) → unwrap_or o 255 ≡ v → v ≤ 15 → o ≡ Some v
value_is (Some w) v e few = ap Some e
value_is None v e few = absurd (omega (arith, e, few))

small : (c w : ℕ) → hex_digit_value c ≡ Some w → w ≤ 15
small c w h = grind (arith)

-- the value of what is none
value_is_none : (c : ℕ) (o : Option ℕ) (v : ℕ) → hex_digit_value c ≡ o → unwrap_or o 255 ≡ v → 15 < v → o ≡ None
value_is_none c (Some w) v is e many = let few = small c w is in absurd (omega (arith, e, few, many))
value_is_none c None v is e many = refl

-- two digits
pub pair_is : (a b high low place : ℕ) → value_or_none a ≡ high → value_or_none b ≡ low → high ≤ 15 → low ≤ 15 → pair_value a b place ≡ Ok (high * 16 + low)
pair_is a b high low place h l few less =
    let first : hex_digit_value a ≡ Some high = value_is (hex_digit_value a) high h few in
    let second : hex_digit_value b ≡ Some low = value_is (hex_digit_value b) low l less in
    rw (first, second) refl

abbrev IsErr : {A : Type 0} → Result A FromHexError → Type 0
IsErr {A} r = (e : FromHexError) × (r ≡ Err e)

first_err : (a place : ℕ) (o : Option ℕ) (f : ℕ → Result ℕ FromHexError) → o ≡ None → IsErr (digit_or_error a place o >>= f)
first_err a place None f e = (_, refl)
first_err a place (Some v) f e = absurd cc

second_err : (a b place : ℕ) (o p : Option ℕ) → p ≡ None → IsErr (digit_or_error a place o >>= (λ h. digit_or_error b (place + 1) p >>= (λ l. Ok (h * 16 + l))))
second_err a b place None p e = (_, refl)
second_err a b place (Some v) None e = (_, refl)
second_err a b place (Some v) (Some w) e = absurd cc

-- one of the two is no digit
pub pair_is_none : (a b high low place : ℕ) → value_or_none a ≡ high → value_or_none b ≡ low → (15 < high) ⊎ (15 < low) → IsErr (pair_value a b place)
pair_is_none a b high low place h l (inl many) = first_err a place (hex_digit_value a) _ (value_is_none a (hex_digit_value a) high refl h many)
pair_is_none a b high low place h l (inr many) = second_err a b place (hex_digit_value a) (hex_digit_value b) (value_is_none b (hex_digit_value b) low refl l many)

-- ---- the loop

-- What stands when the pairs before a place are read: their bytes, or that some byte of them was no digit.
pub record ArePairs (text bytes : List ℕ) (place greatest : ℕ) : Type 0 where
  pub long : length bytes ≡ length text / 2
  pub digits : greatest ≤ 15 → decode_pairs 0 text ≡ prepend (take place bytes) (decode_pairs (2 * place) (drop (2 * place) text))
  pub none : 15 < greatest → result_ok (decode_pairs 0 text) ≡ None

no_bytes : {A : Type 0} (r : Result A FromHexError) → IsErr r → result_ok r ≡ None
no_bytes r e = ap result_ok e.1

one_above : (greatest high low after : ℕ) → after ≡ max (max greatest high) low → greatest ≤ 15 → 15 < after → (15 < high) ⊎ (15 < low)
one_above greatest high low after is few many = elim (cases_lt 15 high) [
  | inl above ↦ inl above
  | inr below ↦ inr (omega (arith, is, few, many, below))
]

pub pair_read : (text bytes : List ℕ) (place greatest high low after : ℕ) → length text % 2 ≡ 0 → place < length bytes
    → value_or_none (slice_index text (2 * place)) ≡ high → value_or_none (slice_index text (2 * place + 1)) ≡ low → after ≡ max (max greatest high) low
    → ArePairs text bytes place greatest → ArePairs text (slice_set bytes place ((high * 16 % 256 + low) % 256)) (place + 1) after
pair_read text bytes place greatest high low after even within h l is so =
    let long = so.long in
    let fits : 2 * place + 1 < length text = omega (arith, even, within, long) in
    record {
      long = length-set bytes place ((high * 16 % 256 + low) % 256) ∙ so.long;
      digits = λ few.
          let byte : (high * 16 % 256 + low) % 256 ≡ high * 16 + low = omega (arith, is, few) in
          let pair = pair_is (slice_index text (2 * place)) (slice_index text (2 * place + 1)) high low (2 * place) h l (omega (arith, is, few)) (omega (arith, is, few)) in
          rw byte (decode_step text bytes place (high * 16 + low) fits within pair (so.digits (omega (arith, is, few))));
      none = λ many. elim (cases_lt 15 greatest) [
        | inl above ↦ so.none above
        | inr below ↦
            let bad = pair_is_none (slice_index text (2 * place)) (slice_index text (2 * place + 1)) high low (2 * place) h l (one_above greatest high low after is below many) in
            ap result_ok (decode_err text bytes place bad.0 fits bad.1 (so.digits below))
      ];
    }

pub none_read : (text bytes : List ℕ) → length bytes ≡ length text / 2 → ArePairs text bytes 0 0
none_read text bytes long = record { long = long; digits = λ few. decode_start text bytes; none = λ many. absurd (omega (arith, many)) }

pub all_read : (text bytes : List ℕ) (place greatest : ℕ) → length text % 2 ≡ 0 → length bytes ≤ place → greatest ≤ 15 → ArePairs text bytes place greatest → Some bytes ≡ result_ok (decode_of text)
all_read text bytes place greatest even past few so =
    let long = so.long in
    sym (ap result_ok (decode_of-even text even ∙ decode_done text bytes place past (omega (arith, even, past, long)) (so.digits few)))

pub not_read : (text bytes : List ℕ) (place greatest : ℕ) → length text % 2 ≡ 0 → 15 < greatest → ArePairs text bytes place greatest → None ≡ result_ok (decode_of text)
not_read text bytes place greatest even many so = sym (ap result_ok (decode_of-even text even) ∙ so.none many)

-- ---- pieces

half : (word bytes : List ℕ) → decode_of word ≡ Ok bytes → is_piece_size (length bytes) ≡ is_piece_size (length word / 2)
half word bytes e =
    let twice = (decode_of-ok word bytes e).2 in
    let same : length bytes ≡ length word / 2 = omega (arith, twice) in
    ap is_piece_size same

none_sized : (word : List ℕ) (r : Result (List ℕ) FromHexError) → decode_of word ≡ r → is_piece_size (length word / 2) ≡ false → None ≡ option_and_then if_piece (result_ok r)
none_sized word (Err e) is other = refl
none_sized word (Ok bytes) is other = let few = half word bytes is ∙ other in rw few refl

-- a word of another size writes no piece
pub no_piece : (word : List ℕ) → is_piece_size (length word / 2) ≡ false → None ≡ piece_of word
no_piece word other = none_sized word (decode_of word) refl other

one_sized : (word bytes : List ℕ) (r : Result (List ℕ) FromHexError) → Some bytes ≡ result_ok r → decode_of word ≡ r → is_piece_size (length word / 2) ≡ true
    → Some bytes ≡ option_and_then if_piece (result_ok r)
one_sized word bytes (Err e) same is sized = absurd cc
one_sized word bytes (Ok read) same is sized = let few = half word read is ∙ sized in rw few same

-- the bytes that a word of the size of a piece writes are the piece
pub one_piece : (word bytes : List ℕ) → Some bytes ≡ result_ok (decode_of word) → is_piece_size (length word / 2) ≡ true → Some bytes ≡ piece_of word
one_piece word bytes same sized = one_sized word bytes (decode_of word) same refl sized
