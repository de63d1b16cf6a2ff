-- A field that is written by its bytes: the number is in it, and all other bits are as they were.
use Rattle.std.proofs.Common.{◌≡◌, ℕ, zero, suc, ◌+◌, ◌-◌, ◌*◌, ◌%◌, ◌^◌, ◌≤◌, ◌<◌, inl, inr, List, [], ◌∷◌, ◌++◌, length, take, drop, refl, ◌∙◌, ap, subst, arith}
use Rattle.std.specs.Int.{byte_at, bytes_high_first}
use Rattle.std.specs.Int.Digits.{number_from_digits, number_from_digits_after}
use Rattle.std.proofs.Math.Nat.{pow-suc, pow-le-pow_right, mul_comm, mod-lt, mod-eq_of_lt}
use Rattle.std.proofs.Math.Arith.{mod-mul}
use Rattle.std.proofs.lemmas.Bool.{cases_lt}
use Rattle.std.proofs.lemmas.List.{get_or-append_right, get_or_append_left, get_or-drop, get_or-take, get_or_past, reverse-reverse}
use Rattle.byteorder.specs.Endian.{big_bytes}
use Rattle.byteorder.specs.Numbers.{length-bytes_high_first}
use Rattle.cts_bits.specs.declared.order.Order.{Order}
use Rattle.cts_bits.specs.declared.order.Order.TheVariants.{Big, Little}
use Rattle.cts_bits.specs.declared.place.Place.{Place}
use Rattle.cts_bits.specs.Places.{span}
use Rattle.cts_bits.specs.Windows.{in_order, number_in, replaced, tail_of, turned}
use Rattle.cts_bits.proofs.Runs.{length-window, span_le_reach, window}
use Rattle.cts_bits.proofs.Turns.{get_or-in_order, length-in_order, number_in-lt}
use Rattle.cts_bits.proofs.Writes.{IsWritten, bit-after, field-after, fits_window, length-after}
use Rattle.cts_def.specs.Starts.{place_data}
use Rattle.cts_framing.specs.Heads.{AreBytes}
use Rattle.cts_framing.specs.Rows.{reach}
use Rattle.cts_encode.specs.Spelled.{with_field}
use Rattle.cts_encode.specs.Spellings.{HasField}

-- ---- bytes

pub bytes_append : (a b : List ℕ) → AreBytes a → AreBytes b → AreBytes (a ++ b)
bytes_append a b ha hb i = elim (cases_lt i (length a)) [
  | inl before ↦ rw (get_or_append_left a b 0 i before) (ha i)
  | inr after ↦ rw (get_or-append_right a b (length a) i 0 refl after) (hb (i - length a))
]

past_take : (n : ℕ) (a : List ℕ) (i : ℕ) → n ≤ i → length (take n a) ≤ i
past_take zero a i h = omega arith
past_take (suc n) [] i h = omega arith
past_take (suc n) (x ∷ a) zero h = absurd (omega (arith, h))
past_take (suc n) (x ∷ a) (suc i) h = let r = past_take n a i (omega (arith, h)) in omega (arith, r)

pub bytes_take : (n : ℕ) (a : List ℕ) → AreBytes a → AreBytes (take n a)
bytes_take n a h i = elim (cases_lt i n) [
  | inl before ↦ rw (get_or-take n a i 0 before) (h i)
  | inr after ↦ rw (get_or_past (take n a) i 0 (past_take n a i after)) (omega arith)
]

pub bytes_drop : (n : ℕ) (a : List ℕ) → AreBytes a → AreBytes (drop n a)
bytes_drop n a h i = rw (get_or-drop n a i 0) (h (n + i))

byte_small : (k x : ℕ) → byte_at k x < 256
byte_small zero x = mod-lt x (omega arith)
byte_small (suc k) x = mod-lt _ (omega arith)

pub bytes_big : (n x : ℕ) → AreBytes (big_bytes n x)
bytes_big zero x i = omega arith
bytes_big (suc n) x zero = byte_small n x
bytes_big (suc n) x (suc i) = bytes_big n x i

bytes_turned : (o : Order) (xs : List ℕ) → AreBytes xs → AreBytes (in_order o xs)
bytes_turned o xs h i = elim (cases_lt i (length xs)) [
  | inl inside ↦ rw (get_or-in_order o xs i inside) (h (turned o (length xs) i))
  | inr past ↦ rw (get_or_past (in_order o xs) i 0 (omega (arith, past, length-in_order o xs))) (omega arith)
]

-- ---- the number in the bytes of a number

byte_on : (k n high : ℕ) → (high * 256 + byte_at k n) * 256 ^ k + n % 256 ^ k ≡ high * 256 ^ suc k + n % 256 ^ suc k
byte_on zero n high = omega arith
byte_on (suc k) n high =
    let unit = 256 ^ suc k in
    let wider : 256 ^ suc (suc k) ≡ 256 * unit = pow-suc 256 (suc k) ∙ mul_comm unit 256 in
    let some : 0 < unit = pow-le-pow_right {n = 256} (omega arith) {i = 0} {j = suc k} (omega arith) in
    rw (wider, mod-mul n {m = 256} {c = unit} (omega arith) some) (omega arith)

number_after : (k n high : ℕ) → number_from_digits_after 256 high (bytes_high_first k n) ≡ high * 256 ^ k + n % 256 ^ k
number_after zero n high = omega arith
number_after (suc k) n high = number_after k n (high * 256 + byte_at k n) ∙ byte_on k n high

number_of_big : (k n : ℕ) → n < 256 ^ k → number_from_digits 256 (big_bytes k n) ≡ n
number_of_big k n small = number_after k n 0 ∙ (let m = mod-eq_of_lt small in omega (arith, m))

in_order-twice : (o : Order) (xs : List ℕ) → in_order o (in_order o xs) ≡ xs
in_order-twice Big xs = refl
in_order-twice Little xs = reverse-reverse xs

number_in_turned : (o : Order) (xs : List ℕ) (n : ℕ) → number_from_digits 256 xs ≡ n → number_in o (in_order o xs) ≡ n
unfolding number_in
number_in_turned o xs n h = ap (number_from_digits 256) (in_order-twice o xs) ∙ h

-- ---- the field

module _ (q : Place) (n : ℕ) (old : List ℕ) (fits : reach (place_data q) ≤ length old) (small : n < 2 ^ q.bits) (bytes : AreBytes old) where
  front : span q.offset q.bits ≤ reach (place_data q)
  front = span_le_reach q.order q.offset q.bits q.some_bits q.after_start

  abbrev touched : List ℕ
  touched = window q.order q.offset q.bits old

  touched_bytes : AreBytes touched
  touched_bytes =
      let first : ℕ = reach (place_data q) - span q.offset q.bits in
      bytes_take (reach (place_data q) - first) (drop first old) (bytes_drop first old bytes)

  touched_length : length touched ≡ span q.offset q.bits
  touched_length = length-window q.order q.offset q.bits old front fits

  abbrev number : ℕ
  number = replaced (number_in q.order touched) (tail_of q.offset q.bits) q.bits n

  number_fits : number < 256 ^ span q.offset q.bits
  number_fits =
      subst (λ (k : ℕ). number < 256 ^ k) touched_length
      (fits_window q.order q.offset q.bits n (number_in q.order touched) touched q.some_bits small touched_length (number_in-lt q.order touched touched_bytes))

  abbrev written : List ℕ
  written = in_order q.order (big_bytes (span q.offset q.bits) number)

  is_written : IsWritten q.order q.offset q.bits n old written
  is_written = record {
    some = q.some_bits;
    after_start = q.after_start;
    fits = fits;
    spelled = small;
    old_bytes = touched_bytes;
    new_bytes = bytes_turned q.order (big_bytes (span q.offset q.bits) number) (bytes_big (span q.offset q.bits) number);
    len = length-in_order q.order (big_bytes (span q.offset q.bits) number) ∙ length-bytes_high_first (span q.offset q.bits) number;
    number = number_in_turned q.order (big_bytes (span q.offset q.bits) number) number (number_of_big (span q.offset q.bits) number number_fits);
  }

  pub field_written : HasField (place_data q) n old (with_field (place_data q) n old)
  field_written =
      let size : ℕ = span q.offset q.bits in
      let first : ℕ = reach (place_data q) - size in
      record {
        bytes = bytes_append (take first old) (written ++ drop size (drop first old)) (bytes_take first old bytes)
            (bytes_append written (drop size (drop first old)) (bytes_turned q.order (big_bytes size number) (bytes_big size number)) (bytes_drop size (drop first old) (bytes_drop first old bytes)));
        len = length-after q.order q.offset q.bits n old written is_written;
        value = field-after q.order q.offset q.bits n old written is_written;
        others = λ k none. bit-after q.order q.offset q.bits n old written is_written k none;
      }
