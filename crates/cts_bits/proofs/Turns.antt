-- Bytes as a field reads them, one more or one less.
use Rattle.std.proofs.Common.{ℕ, ◌≡◌, ◌≢◌, ◌+◌, ◌-◌, ◌*◌, ◌/◌, ◌%◌, ◌^◌, ◌<◌, ◌≤◌, List, ◌∷◌, length, take, drop, get_or, set, bit_and, bit_or, refl, sym, ap, ◌∙◌, arith, inl, inr}
use Rattle.std.proofs.lemmas.Bool.{cases_eq}
use Rattle.std.proofs.lemmas.List.{length-reverse, length-set, get_or-reverse, get_or-set_same, get_or-set_other, same_lists, drop-set, take_all, drop_all, length-drop, length-take-le}
use Rattle.std.proofs.lemmas.Nat.{and_mask, or_shifted}
use Rattle.std.proofs.lemmas.Int.Digits.{number_lt, number_more}
use Rattle.std.proofs.Math.Nat.{div-div-eq-div-mul, mul_comm, one-le-pow, pow-succ', div-one, pow-zero, pow-le-pow_right, mod-eq_of_lt}
use Rattle.std.proofs.Math.Arith.{mod-mul}
use Rattle.std.specs.Int.Digits.{number_from_digits, AllBelowBase}
use Rattle.cts_bits.specs.declared.order.Order.{Order}
use Rattle.cts_bits.specs.declared.order.Order.TheVariants.{Big, Little}
use Rattle.cts_bits.specs.Windows.{in_order, number_in, turned}
use Rattle.cts_bits.proofs.Digits.{below_base, below_base-take, number-cons}

pow_pos256 : (n : ℕ) → 0 < 256 ^ n
pow_pos256 n = let h = one-le-pow n 256 (omega arith) in omega arith

pub length-in_order : (o : Order) (xs : List ℕ) → length (in_order o xs) ≡ length xs
length-in_order Big xs = refl
length-in_order Little xs = length-reverse xs

pub get_or-in_order : (o : Order) (xs : List ℕ) (i : ℕ) → i < length xs → get_or (in_order o xs) i 0 ≡ get_or xs (turned o (length xs) i) 0
get_or-in_order Big xs i h = refl
get_or-in_order Little xs i h = get_or-reverse xs i 0 h ∙ ap (λ (k : ℕ). get_or xs k 0) (omega arith)

pub in_order-below : (o : Order) (xs : List ℕ) → ((i : ℕ) → get_or xs i 0 < 256) → AllBelowBase 256 (in_order o xs)
in_order-below o xs h =
    below_base 256 (in_order o xs) (λ i lt.
    let here : i < length xs = omega (arith, length-in_order o xs) in
    rw (get_or-in_order o xs i here) (h (turned o (length xs) i)))

pub number_in-lt : (o : Order) (xs : List ℕ) → ((i : ℕ) → get_or xs i 0 < 256) → number_in o xs < 256 ^ length xs
unfolding number_in
number_in-lt o xs h = rw (length-in_order o xs) at (number_lt 256 (in_order o xs) (in_order-below o xs h))

-- one byte more is read
pub gather_more : (o : Order) (xs : List ℕ) (i n byte place : ℕ) → length xs ≤ 9 → i < length xs → ((k : ℕ) → get_or xs k 0 < 256)
    → n ≡ number_from_digits 256 (take i (in_order o xs)) → place ≡ turned o (length xs) i → byte ≡ get_or xs place 0
    → bit_or (n * 2 ^ 8 % 2 ^ 128) byte ≡ number_from_digits 256 (take (i + 1) (in_order o xs))
gather_more o xs i n byte place short lt bytes en ep eb =
    let ys : List ℕ = in_order o xs in
    let len : length ys ≡ length xs = length-in_order o xs in
    let front : length (take i ys) ≡ i = length-take-le i ys (omega arith) in
    let bound : n < 256 ^ i = rw en (rw front at (number_lt 256 (take i ys) (below_base-take 256 i ys (in_order-below o xs bytes)))) in
    let top : 256 ^ i ≤ 256 ^ 8 = pow-le-pow_right {n = 256} (omega arith) {i = i} {j = 8} (omega arith) in
    let same : byte ≡ get_or ys i 0 = eb ∙ ap (λ (k : ℕ). get_or xs k 0) ep ∙ sym (get_or-in_order o xs i lt) in
    let small : byte < 2 ^ 8 = rw eb (bytes place) in
    let whole : n * 2 ^ 8 % 2 ^ 128 ≡ n * 2 ^ 8 = mod-eq_of_lt (omega arith) in
    let sum : bit_or (n * 2 ^ 8) byte ≡ n * 2 ^ 8 + byte = or_shifted n 8 byte small in
    let step = number_more 256 ys i (omega arith) in
    rw (whole, sum, step, ← en, ← same) refl

pub gather_all : (o : Order) (xs : List ℕ) (i n : ℕ) → length xs ≤ i → n ≡ number_from_digits 256 (take i (in_order o xs)) → n ≡ number_in o xs
unfolding number_in
gather_all o xs i n le en = en ∙ ap (number_from_digits 256) (take_all i (in_order o xs) (omega (arith, length-in_order o xs)))

-- a write in the buffer's order, seen in the field's
pub in_order-set : (o : Order) (xs : List ℕ) (i place y : ℕ) → i < length xs → place ≡ turned o (length xs) i → in_order o (set xs place y) ≡ set (in_order o xs) i y
in_order-set Big xs i place y lt ep = ap (λ (k : ℕ). set xs k y) ep
in_order-set Little xs i place y lt ep =
    let e : place ≡ length xs - 1 - i = ep in
    let ls : length (set xs place y) ≡ length xs = length-set xs place y in
    let l1 = length-reverse (set xs place y) in
    let l2 = length-reverse xs in
    let l3 = length-set (in_order Little xs) i y in
    same_lists (in_order Little (set xs place y)) (set (in_order Little xs) i y) (omega arith) (λ k d h.
    let hk : k < length xs = omega arith in
    let left = get_or-reverse (set xs place y) k d (omega arith) in
    let at : length (set xs place y) - 1 - k ≡ length xs - 1 - k = omega arith in
    elim (cases_eq k i) [
      | inl same ↦
          let p : length xs - 1 - k ≡ place = omega arith in
          left ∙ rw (at, p, get_or-set_same xs place y d (omega arith), same, get_or-set_same (in_order Little xs) i y d (omega arith)) refl
      | inr other ↦
          let ne : length xs - 1 - k ≢ place = (λ (q : length xs - 1 - k ≡ place). other (omega arith)) in
          left ∙ rw (at, get_or-set_other xs place (length xs - 1 - k) y d ne, get_or-set_other (in_order Little xs) i k y d other) (sym (get_or-reverse xs k d hk))
    ])

-- the bytes of the number below 256 ^ done are written, and the rest of it is left
abbrev pub IsWritten : Order → List ℕ → ℕ → ℕ → ℕ → ℕ → Type 0
IsWritten o xs len number rest done =
    (rest ≡ number / 256 ^ done) × (number_from_digits 256 (drop (len - done) (in_order o xs)) ≡ number % 256 ^ done)

pub put_none : (o : Order) (xs : List ℕ) (len number : ℕ) → length xs ≡ len → IsWritten o xs len number number 0
put_none o xs len number e =
    let l = length-in_order o xs in
    (rw (pow-zero 256) (sym (div-one number)), rw (drop_all (len - 0) (in_order o xs) (omega arith), pow-zero 256) (omega arith))

-- one byte more is written
pub put_more : (o : Order) (xs : List ℕ) (len number rest done place : ℕ) → length xs ≡ len → done < len
    → place ≡ turned o len (len - 1 - done) → IsWritten o xs len number rest done
    → IsWritten o (set xs place (bit_and rest 255)) len number (rest / 256) (done + 1)
put_more o xs len number rest done place e lt ep before =
    let ys : List ℕ = in_order o xs in
    let at : ℕ = len - 1 - done in
    let byte : ℕ = bit_and rest 255 in
    let ly : length ys ≡ len = length-in_order o xs ∙ e in
    let digit : byte ≡ number / 256 ^ done % 256 = and_mask rest 8 ∙ ap (λ (x : ℕ). x % 256) before.0 in
    let turn : place ≡ turned o (length xs) at = rw e ep in
    let moved : in_order o (set xs place byte) ≡ set ys at byte = in_order-set o xs at place byte (omega arith) turn in
    let from : len - (done + 1) ≡ at = omega arith in
    let next : at + 1 ≡ len - done = omega arith in
    let cut : drop at (set ys at byte) ≡ byte ∷ drop (len - done) ys =
    rw next at (drop-set ys at byte (omega arith)) in
    let low : length (drop (len - done) ys) ≡ done = omega (arith, length-drop (len - done) ys) in
    let pow : 256 ^ (done + 1) ≡ 256 * 256 ^ done = ap (λ (k : ℕ). 256 ^ k) (omega arith) ∙ pow-succ' 256 done in
    let pos : 0 < 256 ^ done = pow_pos256 done in (
      rw (before.0, pow, mul_comm 256 (256 ^ done)) (div-div-eq-div-mul number (256 ^ done) 256),
      rw (from, moved, cut, number-cons 256 byte (drop (len - done) ys), low, before.1, digit, pow) (sym (mod-mul number {m = 256} {c = 256 ^ done} (omega arith) pos)),
    )

pub put_all : (o : Order) (xs : List ℕ) (len number rest done : ℕ) → length xs ≡ len → len ≤ done → done ≤ len → number < 256 ^ len
    → IsWritten o xs len number rest done → number_in o xs ≡ number
unfolding number_in
put_all o xs len number rest done e ge le fits h =
    let all : done ≡ len = omega arith in
    let none : len - done ≡ 0 = omega arith in
    let e1 : number_from_digits 256 (in_order o xs) ≡ number % 256 ^ len = rw (none, all) at h.1 in
    e1 ∙ mod-eq_of_lt fits
