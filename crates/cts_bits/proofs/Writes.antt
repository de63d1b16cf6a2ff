-- What a write of the number in a field's bytes leaves.
use Rattle.std.proofs.Common.{ℕ, ◌≡◌, ◌+◌, ◌-◌, ◌*◌, ◌/◌, ◌%◌, ◌^◌, ◌<◌, ◌≤◌, ◌⊎◌, List, ◌++◌, length, take, drop, get_or, reverse, refl, sym, ap, ◌∙◌, arith, inl, inr}
use Rattle.std.proofs.lemmas.Bool.{cases_lt}
use Rattle.std.proofs.lemmas.List.{get_or-append_right, get_or_append_left, get_or-drop, get_or-take, get_or_past, length-append, length-drop, length-take-le, take-append-drop, reverse-reverse}
use Rattle.std.proofs.Math.Nat.{pow-le-pow_right}
use Rattle.std.proofs.lemmas.Slice.{between-put_mid}
use Rattle.std.specs.Int.{bit_at}
use Rattle.std.specs.Int.Digits.{number_from_digits}
use borrow.Rule.Slice.PartMut.{put_mid}
use Rattle.cts_bits.specs.declared.order.Order.{Order}
use Rattle.cts_bits.specs.declared.order.Order.TheVariants.{Big, Little}
use Rattle.cts_bits.specs.Bits.{bits_of}
use Rattle.cts_bits.specs.Fields.{bit_place_at, field_at}
use Rattle.cts_bits.specs.Places.{IsBeforeStart, reach_of, span}
use Rattle.cts_bits.specs.Windows.{in_order, number_in, replaced, tail_of, turned}
use Rattle.cts_bits.proofs.BitLists.{bits_of-below, get_or-bits_of, get_or-number, length-bits_of, number-bits_of, pow256}
use Rattle.cts_bits.proofs.Digits.{same_digits}
use Rattle.cts_bits.proofs.Middles.{bit_at-replaced, cut-replaced, replaced-lt, replaced-same}
use Rattle.cts_bits.proofs.Runs.{field_in_window, filled, length-window, span_le_reach, window}
use Rattle.cts_bits.proofs.Turns.{get_or-in_order, in_order-below, length-in_order}

-- an element of a list with a part of it written
get_or-put_mid_below : (a k : ℕ) (xs ys : List ℕ) (i : ℕ) → i < a → a ≤ length xs → get_or (put_mid a k xs ys) i 0 ≡ get_or xs i 0
get_or-put_mid_below a k xs ys i lt le =
    let l = length-take-le a xs le in
    get_or_append_left (take a xs) (ys ++ drop k (drop a xs)) 0 i (omega arith) ∙ get_or-take a xs i 0 lt

get_or-put_mid : (a k : ℕ) (xs ys : List ℕ) (i : ℕ) → i < length ys → a ≤ length xs → get_or (put_mid a k xs ys) (a + i) 0 ≡ get_or ys i 0
get_or-put_mid a k xs ys i lt le =
    let e : a + i - a ≡ i = omega arith in
    get_or-append_right (take a xs) (ys ++ drop k (drop a xs)) a (a + i) 0 (length-take-le a xs le) (omega arith)
    ∙ ap (λ (x : ℕ). get_or (ys ++ drop k (drop a xs)) x 0) e
    ∙ get_or_append_left ys (drop k (drop a xs)) 0 i lt

get_or-put_mid_past : (a k : ℕ) (xs ys : List ℕ) (i : ℕ) → length ys ≡ k → a + k ≤ i → a ≤ length xs → get_or (put_mid a k xs ys) i 0 ≡ get_or xs i 0
get_or-put_mid_past a k xs ys i len ge le =
    let e : a + (k + (i - a - k)) ≡ i = omega arith in
    get_or-append_right (take a xs) (ys ++ drop k (drop a xs)) a i 0 (length-take-le a xs le) (omega arith)
    ∙ get_or-append_right ys (drop k (drop a xs)) k (i - a) 0 len (omega arith)
    ∙ get_or-drop k (drop a xs) (i - a - k) 0 ∙ get_or-drop a xs (k + (i - a - k)) 0
    ∙ ap (λ (x : ℕ). get_or xs x 0) e

-- a part of bytes is bytes
pub part_bytes : (a k : ℕ) (xs ys : List ℕ) → ((i : ℕ) → get_or (put_mid a k xs ys) i 0 < 256) → a ≤ length xs → (i : ℕ) → get_or ys i 0 < 256
part_bytes a k xs ys all le i = elim (cases_lt i (length ys)) [
  | inl inside ↦ rw (get_or-put_mid a k xs ys i inside le) at (all (a + i))
  | inr past ↦ rw (get_or_past ys i 0 past) (omega arith)
]

pub length-put_mid : (a k : ℕ) (xs ys : List ℕ) → length ys ≡ k → a + k ≤ length xs → length (put_mid a k xs ys) ≡ length xs
length-put_mid a k xs ys len le =
    let l1 = length-append (take a xs) (ys ++ drop k (drop a xs)) in
    let l2 = length-append ys (drop k (drop a xs)) in
    let l3 = length-drop k (drop a xs) in
    let l4 = length-drop a xs in
    let l5 = length-take-le a xs (omega arith) in
    omega arith

-- a part written as it was
put_mid-same : (a k : ℕ) (xs : List ℕ) → put_mid a k xs (take k (drop a xs)) ≡ xs
put_mid-same a k xs = ap (λ (ys : List ℕ). take a xs ++ ys) (take-append-drop k (drop a xs)) ∙ take-append-drop a xs

pub turned-lt : (o : Order) (n i : ℕ) → i < n → turned o n i < n
turned-lt Big n i h = h
turned-lt Little n i h = omega arith

pub turned-turned : (o : Order) (n i : ℕ) → i < n → turned o n (turned o n i) ≡ i
turned-turned Big n i h = refl
turned-turned Little n i h = omega arith

-- a bit of a byte, in the number of the bytes
bit_in_number : (o : Order) (xs : List ℕ) (i r : ℕ) → i < length xs → r < 8 → ((k : ℕ) → get_or xs k 0 < 256)
    → bit_at (get_or xs i 0) (7 - r) ≡ bit_at (number_in o xs) (8 * length xs - 1 - (8 * turned o (length xs) i + r))
unfolding number_in
bit_in_number o xs i r lt small all =
    let ys : List ℕ = in_order o xs in
    let t : ℕ = turned o (length xs) i in
    let q : ℕ = 8 * t + r in
    let inside : t < length xs = turned-lt o (length xs) i lt in
    let byte : q / 8 ≡ t = omega arith in
    let place : q % 8 ≡ r = omega arith in
    let many : length (bits_of ys) ≡ 8 * length xs = length-bits_of ys ∙ ap (λ (x : ℕ). 8 * x) (length-in_order o xs) in
    let spelled : number_from_digits 2 (bits_of ys) ≡ number_from_digits 256 ys = number-bits_of ys (in_order-below o xs all) in
    let same : get_or ys t 0 ≡ get_or xs i 0 = get_or-in_order o xs t inside ∙ ap (λ (x : ℕ). get_or xs x 0) (turned-turned o (length xs) i lt) in
    let left : get_or (bits_of ys) q 0 ≡ bit_at (get_or xs i 0) (7 - r) = get_or-bits_of ys q ∙ rw (byte, place, same) refl in
    let right : get_or (bits_of ys) q 0 ≡ bit_at (number_from_digits 256 ys) (8 * length xs - 1 - q) =
    get_or-number (bits_of ys) q (bits_of-below ys) (omega arith) ∙ rw (many, spelled) refl in
    sym left ∙ right

-- which bit of the field a bit of its bytes is
pub bit_place_is : (o : Order) (offset bits i r q : ℕ) → span offset bits ≤ reach_of o offset bits → 1 ≤ bits → i < span offset bits → r < 8
    → q ≡ 8 * turned o (span offset bits) i + r → offset % 8 ≤ q
    → 8 * (reach_of o offset bits - span offset bits + i) + r ≡ bit_place_at o offset bits (q - offset % 8)
bit_place_is Big offset bits i r q front some lt small e ge = omega arith
bit_place_is Little offset bits i r q front some lt small e ge =
    let back : offset % 8 + (q - offset % 8) ≡ q = omega arith in
    let byte : q / 8 ≡ span offset bits - 1 - i = omega arith in
    let place : q % 8 ≡ r = omega arith in
    rw (back, byte, place) (omega arith)

-- a field's bytes were written as the number with the value in the field's bits
pub record IsWritten (o : Order) (offset bits value : ℕ) (old ys : List ℕ) : Type 0 where
  pub some : 1 ≤ bits
  pub after_start : IsBeforeStart o offset bits → ⊥
  pub fits : reach_of o offset bits ≤ length old
  pub spelled : value < 2 ^ bits
  pub old_bytes : (i : ℕ) → get_or (window o offset bits old) i 0 < 256
  pub new_bytes : (i : ℕ) → get_or ys i 0 < 256
  pub len : length ys ≡ span offset bits
  pub number : number_in o ys ≡ replaced (number_in o (window o offset bits old)) (tail_of offset bits) bits value

-- the buffer with other bytes in place of the field's
abbrev pub after : Order → ℕ → ℕ → List ℕ → List ℕ → List ℕ
after o offset bits old ys = put_mid (reach_of o offset bits - span offset bits) (span offset bits) old ys

pub length-after : (o : Order) (offset bits value : ℕ) (old ys : List ℕ) → IsWritten o offset bits value old ys → length (after o offset bits old ys) ≡ length old
length-after o offset bits value old ys w =
    let front = span_le_reach o offset bits w.some w.after_start in
    length-put_mid (reach_of o offset bits - span offset bits) (span offset bits) old ys w.len (omega (arith, w.fits))

window-after : (o : Order) (offset bits value : ℕ) (old ys : List ℕ) → IsWritten o offset bits value old ys → window o offset bits (after o offset bits old ys) ≡ ys
window-after o offset bits value old ys w =
    let front = span_le_reach o offset bits w.some w.after_start in
    let first : ℕ = reach_of o offset bits - span offset bits in
    let count : span offset bits ≡ reach_of o offset bits - first = omega arith in
    between-put_mid first (span offset bits) old ys (reach_of o offset bits) (omega (arith, w.fits)) (w.len ∙ count)

-- the field is the value
pub field-after : (o : Order) (offset bits value : ℕ) (old ys : List ℕ) → IsWritten o offset bits value old ys → field_at o offset bits (after o offset bits old ys) ≡ value
field-after o offset bits value old ys w =
    let whole = length-after o offset bits value old ys w in
    let ours = window-after o offset bits value old ys w in
    let small : (i : ℕ) → get_or (window o offset bits (after o offset bits old ys)) i 0 < 256 = rw ours w.new_bytes in
    field_in_window o offset bits (after o offset bits old ys) w.some w.after_start (omega (arith, w.fits)) small
    ∙ rw (ours, w.number) (cut-replaced (number_in o (window o offset bits old)) (tail_of offset bits) bits value w.spelled)

-- a bit of the field's bytes that is none of the field is as it was
bit-after_inside : (o : Order) (offset bits value : ℕ) (old ys : List ℕ) → IsWritten o offset bits value old ys → (i r : ℕ) → i < span offset bits → r < 8
    → ((j : ℕ) → j < bits → 8 * (reach_of o offset bits - span offset bits + i) + r ≡ bit_place_at o offset bits j → ⊥)
    → bit_at (get_or ys i 0) (7 - r) ≡ bit_at (get_or (window o offset bits old) i 0) (7 - r)
bit-after_inside o offset bits value old ys w i r lt small none =
    let front = span_le_reach o offset bits w.some w.after_start in
    let xs : List ℕ = window o offset bits old in
    let lx : length xs ≡ span offset bits = length-window o offset bits old front w.fits in
    let fill = filled offset bits w.some in
    let q : ℕ = 8 * turned o (span offset bits) i + r in
    let inside = turned-lt o (span offset bits) i lt in
    let at : ℕ = 8 * span offset bits - 1 - q in
    let new : bit_at (get_or ys i 0) (7 - r) ≡ bit_at (number_in o ys) at = bit_in_number o ys i r (omega (arith, w.len)) small w.new_bytes ∙ rw w.len refl in
    let was : bit_at (get_or xs i 0) (7 - r) ≡ bit_at (number_in o xs) at = bit_in_number o xs i r (omega arith) small w.old_bytes ∙ rw lx refl in
    let apart : (at < tail_of offset bits) ⊎ (tail_of offset bits + bits ≤ at) =
    elim (cases_lt q (offset % 8)) [
      | inl before ↦ inr (omega arith)
      | inr from ↦ elim (cases_lt q (offset % 8 + bits)) [
        | inl within ↦ absurd (none (q - offset % 8) (omega arith) (bit_place_is o offset bits i r q front w.some lt small refl from))
        | inr past ↦ inl (omega arith)
      ]
    ] in
    new ∙ rw w.number (bit_at-replaced (number_in o xs) (tail_of offset bits) bits value at w.spelled apart) ∙ sym was

-- a bit that is none of the field is as it was
pub bit-after : (o : Order) (offset bits value : ℕ) (old ys : List ℕ) → IsWritten o offset bits value old ys → (k : ℕ)
    → ((j : ℕ) → j < bits → k ≡ bit_place_at o offset bits j → ⊥)
    → get_or (bits_of (after o offset bits old ys)) k 0 ≡ get_or (bits_of old) k 0
bit-after o offset bits value old ys w k none =
    let front = span_le_reach o offset bits w.some w.after_start in
    let fits = w.fits in
    let len = w.len in
    let first : ℕ = reach_of o offset bits - span offset bits in
    let new = get_or-bits_of (after o offset bits old ys) k in
    let was = get_or-bits_of old k in
    elim (cases_lt (k / 8) first) [
      | inl before ↦ new ∙ rw (get_or-put_mid_below first (span offset bits) old ys (k / 8) before (omega arith)) (sym was)
      | inr from ↦ elim (cases_lt (k / 8) (first + span offset bits)) [
        | inr past ↦ new ∙ rw (get_or-put_mid_past first (span offset bits) old ys (k / 8) len past (omega arith)) (sym was)
        | inl within ↦
            let i : ℕ = k / 8 - first in
            let byte : k / 8 ≡ first + i = omega arith in
            let place : k ≡ 8 * (first + i) + k % 8 = omega arith in
            let count : reach_of o offset bits - first ≡ span offset bits = omega arith in
            let inside = bit-after_inside o offset bits value old ys w i (k % 8) (omega arith) (omega arith) (λ j lt e. none j lt (place ∙ e)) in
            let ours : get_or (after o offset bits old ys) (k / 8) 0 ≡ get_or ys i 0 =
            ap (λ (x : ℕ). get_or (after o offset bits old ys) x 0) byte ∙ get_or-put_mid first (span offset bits) old ys i (omega arith) (omega arith) in
            let theirs : get_or (window o offset bits old) i 0 ≡ get_or old (k / 8) 0 =
            get_or-take (reach_of o offset bits - first) (drop first old) i 0 (omega arith) ∙ get_or-drop first old i 0 ∙ ap (λ (x : ℕ). get_or old x 0) (sym byte) in
            new ∙ ap (λ (b : ℕ). bit_at b (7 - k % 8)) ours ∙ inside ∙ ap (λ (b : ℕ). bit_at b (7 - k % 8)) theirs ∙ sym was
      ]
    ]

-- bytes in an order are the bytes
in_order-same : (o : Order) (xs ys : List ℕ) → in_order o xs ≡ in_order o ys → xs ≡ ys
in_order-same Big xs ys e = e
in_order-same Little xs ys e = sym (reverse-reverse xs) ∙ ap reverse e ∙ reverse-reverse ys

-- bytes of one length that make one number are the same
number_in-same : (o : Order) (xs ys : List ℕ) → ((i : ℕ) → get_or xs i 0 < 256) → ((i : ℕ) → get_or ys i 0 < 256) → length xs ≡ length ys
    → number_in o xs ≡ number_in o ys → xs ≡ ys
unfolding number_in
number_in-same o xs ys bx by len e =
    let lx = length-in_order o xs in
    let ly = length-in_order o ys in
    in_order-same o xs ys (same_digits 256 (in_order o xs) (in_order o ys) (in_order-below o xs bx) (in_order-below o ys by) (omega arith) e)

-- to write what stands there changes nothing
pub after-same : (o : Order) (offset bits value : ℕ) (old ys : List ℕ) → IsWritten o offset bits value old ys → value ≡ field_at o offset bits old → after o offset bits old ys ≡ old
after-same o offset bits value old ys w e =
    let front = span_le_reach o offset bits w.some w.after_start in
    let xs : List ℕ = window o offset bits old in
    let first : ℕ = reach_of o offset bits - span offset bits in
    let lx = length-window o offset bits old front w.fits in
    let count : reach_of o offset bits - first ≡ span offset bits = omega arith in
    let was : value ≡ number_in o xs / 2 ^ tail_of offset bits % 2 ^ bits = e ∙ field_in_window o offset bits old w.some w.after_start w.fits w.old_bytes in
    let number : number_in o ys ≡ number_in o xs = w.number ∙ rw was (replaced-same (number_in o xs) (tail_of offset bits) bits) in
    let bytes : ys ≡ xs = number_in-same o ys xs w.new_bytes w.old_bytes (w.len ∙ sym lx) number in
    let part : ys ≡ take (span offset bits) (drop first old) = bytes ∙ ap (λ (k : ℕ). take k (drop first old)) count in
    rw part (put_mid-same first (span offset bits) old)

-- the number fits the field's bytes
pub fits_window : (o : Order) (offset bits value number : ℕ) (xs : List ℕ) → 1 ≤ bits → value < 2 ^ bits → length xs ≡ span offset bits
    → number < 256 ^ length xs → replaced number (tail_of offset bits) bits value < 256 ^ length xs
fits_window o offset bits value number xs some sv len small =
    let fill = filled offset bits some in
    let pow : 256 ^ length xs ≡ 2 ^ (8 * span offset bits) = pow256 (length xs) ∙ ap (λ (k : ℕ). 2 ^ (8 * k)) len in
    rw pow (replaced-lt number (tail_of offset bits) bits (8 * span offset bits) value (rw pow at small) (omega arith) sv)

-- nine bytes at most
pub nine_bytes : (number n : ℕ) → n ≤ 9 → number < 256 ^ n → number < 2 ^ 72
nine_bytes number n le small =
    let top : 256 ^ n ≤ 256 ^ 9 = pow-le-pow_right {n = 256} (omega arith) {i = n} {j = 9} (omega arith) in
    omega arith
