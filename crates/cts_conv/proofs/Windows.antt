-- Zero bytes after a list, and fields among the bytes round them.
use Rattle.std.proofs.Common.{◌≡◌, ℕ, zero, suc, ◌+◌, ◌-◌, ◌*◌, ◌/◌, ◌%◌, ◌≤◌, ◌<◌, Bool, true, false, List, [], ◌∷◌, ◌++◌, length, take, drop, replicate, refl, sym, ap, ap₂, ◌∙◌, arith, reverse, inl, inr, min, not, nat_lt, ◌==◌}
use Rattle.std.proofs.lemmas.Bool.{and_from, and_parts, cases_Bool, false≢true}
use Rattle.std.proofs.lemmas.Bool.Decides.{nat_tests}
use Rattle.std.proofs.lemmas.List.{drop-drop, drop-take, length-append, length-drop, length-replicate, length-take-le, take-replicate, take-take}
use Rattle.std.specs.List.{slice_range}
use Rattle.cts_bits.specs.Bits.{bits_of, number_of_bits}
use Rattle.cts_bits.specs.Fields.{field_at, laid_out, run_start}
use Rattle.cts_bits.specs.Places.{IsBadSize, IsBeforeStart, is_bad_size, is_whole, last_place, reach_of, span}
use Rattle.cts_bits.specs.declared.order.Order.{Order}
use Rattle.cts_bits.specs.declared.order.Order.TheVariants.{Big, Little}
use Rattle.cts_bits.proofs.Runs.{span_le_reach}
use Rattle.cts_bits.proofs.BitLists.{bits_of-drop, bits_of-take}

-- ---- zero bytes

-- as far as zero bytes reach, it does not matter how many there are
pub take_zeros : (r : ℕ) (xs : List ℕ) (a b : ℕ) → r ≤ length xs + a → r ≤ length xs + b → take r (xs ++ replicate a 0) ≡ take r (xs ++ replicate b 0)
take_zeros zero xs a b h k = refl
take_zeros (suc r) (x ∷ xs) a b h k = ap (λ (t : List ℕ). x ∷ t) (take_zeros r xs a b (omega arith) (omega arith))
take_zeros (suc r) [] zero b h k = absurd (omega arith)
take_zeros (suc r) [] (suc a) zero h k = absurd (omega arith)
take_zeros (suc r) [] (suc a) (suc b) h k = ap (λ (t : List ℕ). 0 ∷ t) (take_zeros r [] a b (omega arith) (omega arith))

unfoldable pub zeros : ℕ → List ℕ
zeros k = replicate k 0

drop_only : (n k : ℕ) → drop n (zeros k) ≡ zeros (k - n)
unfolding zeros
drop_only zero k = let e : k - 0 ≡ k = omega arith in rw e refl
drop_only (suc n) zero = let e : 0 - suc n ≡ 0 = omega arith in rw e refl
drop_only (suc n) (suc k) = let e : suc k - suc n ≡ k - n = omega arith in drop_only n k ∙ ap zeros (sym e)

-- zero bytes after what is left of a list
pub drop_zeros : (n : ℕ) (xs : List ℕ) (k : ℕ) → drop n (xs ++ replicate k 0) ≡ drop n xs ++ replicate (k - (n - length xs)) 0
unfolding zeros
drop_zeros zero xs k = let e : k - (0 - length xs) ≡ k = omega arith in rw e refl
drop_zeros (suc n) (x ∷ xs) k =
    let e : suc n - suc (length xs) ≡ n - length xs = omega arith in
    drop_zeros n xs k ∙ ap (λ (m : ℕ). drop n xs ++ replicate (k - m) 0) (sym e)
drop_zeros (suc n) [] k = let e : suc n - 0 ≡ suc n = omega arith in drop_only (suc n) k ∙ ap (λ (m : ℕ). zeros (k - m)) (sym e)

-- ---- fields

slice_shift : (k a b : ℕ) (xs : List ℕ) → slice_range xs (k + a) (k + b) ≡ slice_range (drop k xs) a b
slice_shift k a b xs =
    let e : (k + b) - (k + a) ≡ b - a = omega arith in
    rw e (ap (take (b - a)) (sym (drop-drop a k xs)))

whole_shift : (k offset bits : ℕ) → is_whole (8 * k + offset) bits ≡ is_whole offset bits
whole_shift k offset bits = let e : (8 * k + offset) % 8 ≡ offset % 8 = omega arith in rw e refl

run_shift : (k offset bits : ℕ) → run_start Little (8 * k + offset) bits ≡ run_start Little offset bits
run_shift k offset bits = let e : (8 * k + offset) % 8 ≡ offset % 8 = omega arith in rw e refl

laid_shift : (k offset bits : ℕ) (bytes : List ℕ) → span offset bits ≤ reach_of Little offset bits
    → laid_out Little (8 * k + offset) bits bytes ≡ laid_out Little offset bits (drop k bytes)
laid_shift k offset bits bytes h = elim (cases_Bool (is_whole offset bits)) [
  | inl e ↦
      let w = whole_shift k offset bits ∙ e in
      let a : (8 * k + offset) / 8 ≡ k + offset / 8 = omega arith in
      let b : (8 * k + offset) / 8 + bits / 8 ≡ k + (offset / 8 + bits / 8) = omega arith in
      rw (w, e) (ap reverse (ap₂ (slice_range bytes) a b ∙ slice_shift k (offset / 8) (offset / 8 + bits / 8) bytes))
  | inr e ↦
      let w = whole_shift k offset bits ∙ e in
      let touched : span offset bits ≤ offset / 8 + 1 = rw e at h in
      let a : (8 * k + offset) / 8 + 1 - span (8 * k + offset) bits ≡ k + (offset / 8 + 1 - span offset bits) = omega arith in
      let b : (8 * k + offset) / 8 + 1 ≡ k + (offset / 8 + 1) = omega arith in
      rw (w, e) (ap reverse (ap₂ (slice_range bytes) a b ∙ slice_shift k (offset / 8 + 1 - span offset bits) (offset / 8 + 1) bytes))
]

-- where whole bytes are left out in front, a field lies so many bits further on
pub field_shift : (o : Order) (k offset bits : ℕ) (bytes : List ℕ) → span offset bits ≤ reach_of o offset bits
    → field_at o (8 * k + offset) bits bytes ≡ field_at o offset bits (drop k bytes)
unfolding field_at
field_shift Big k offset bits bytes h =
    ap (λ (t : List ℕ). number_of_bits (take bits t)) (sym (ap (drop offset) (bits_of-drop k bytes) ∙ drop-drop offset (8 * k) (bits_of bytes)))
field_shift Little k offset bits bytes h =
    let run = run_shift k offset bits in
    let laid = laid_shift k offset bits bytes h in
    rw (run, laid) refl

-- ---- what a field depends on

slice_taken : (a b : ℕ) (xs : List ℕ) → a ≤ b → slice_range xs a b ≡ drop a (take b xs)
slice_taken a b xs h =
    let e : a + (b - a) ≡ b = omega arith in
    sym (ap (λ (n : ℕ). drop a (take n xs)) (sym e) ∙ drop-take a (b - a) xs)

-- the bits of a field, in the bytes that it reaches
big_taken : (offset bits : ℕ) (xs : List ℕ) → take bits (drop offset (bits_of xs)) ≡ take bits (drop offset (bits_of (take (reach_of Big offset bits) xs)))
big_taken offset bits xs =
    let r : ℕ = reach_of Big offset bits in
    let e : 8 * r ≡ offset + (8 * r - offset) = omega arith in
    sym (ap (λ (t : List ℕ). take bits (drop offset t)) (bits_of-take r xs)
    ∙ ap (λ (n : ℕ). take bits (drop offset (take n (bits_of xs)))) e
    ∙ ap (take bits) (drop-take offset (8 * r - offset) (bits_of xs))
    ∙ take-take bits (8 * r - offset) (drop offset (bits_of xs)) (omega arith))

little_taken : (offset bits : ℕ) (xs : List ℕ) → laid_out Little offset bits xs ≡ laid_out Little offset bits (take (reach_of Little offset bits) xs)
little_taken offset bits xs = elim (cases_Bool (is_whole offset bits)) [
  | inl e ↦
      let a : ℕ = offset / 8 in
      let b : ℕ = offset / 8 + bits / 8 in
      let twice = take-take b b xs (omega arith) in
      let p = slice_taken a b xs (omega arith) in
      let q = slice_taken a b (take b xs) (omega arith) in
      rw e (ap reverse (p ∙ ap (drop a) (sym twice) ∙ sym q))
  | inr e ↦
      let a : ℕ = offset / 8 + 1 - span offset bits in
      let b : ℕ = offset / 8 + 1 in
      let twice = take-take b b xs (omega arith) in
      let p = slice_taken a b xs (omega arith) in
      let q = slice_taken a b (take b xs) (omega arith) in
      rw e (ap reverse (p ∙ ap (drop a) (sym twice) ∙ sym q))
]

field_taken : (o : Order) (offset bits : ℕ) (xs : List ℕ) → field_at o offset bits xs ≡ field_at o offset bits (take (reach_of o offset bits) xs)
unfolding field_at
field_taken Big offset bits xs = ap number_of_bits (big_taken offset bits xs)
field_taken Little offset bits xs =
    ap (λ (t : List ℕ). number_of_bits (take bits (drop (run_start Little offset bits) (bits_of t)))) (little_taken offset bits xs)

-- a field is the same in two lists whose first bytes, as far as it reaches, are the same
pub field_same : (o : Order) (offset bits : ℕ) (xs ys : List ℕ) → take (reach_of o offset bits) xs ≡ take (reach_of o offset bits) ys
    → field_at o offset bits xs ≡ field_at o offset bits ys
field_same o offset bits xs ys e = field_taken o offset bits xs ∙ ap (field_at o offset bits) e ∙ sym (field_taken o offset bits ys)

-- the bytes of a window and those of a list that is filled up agree, as far as both go
pub window_same : (r from k : ℕ) (bytes : List ℕ) → r ≤ 17 → from + r ≤ length bytes + k
    → take r (drop from (bytes ++ replicate k 0)) ≡ take r (take 17 (drop from bytes ++ replicate 17 0))
window_same r from k bytes few inside =
    let len = length-drop from bytes in
    ap (take r) (drop_zeros from bytes k)
    ∙ take_zeros r (drop from bytes) (k - (from - length bytes)) 17 (omega arith) (omega arith)
    ∙ sym (take-take r 17 (drop from bytes ++ replicate 17 0) few)

-- ---- a number seen in a window

pub record HasField (o : Order) (begin bits total : ℕ) : Type 0 where
  pub some : 1 ≤ bits
  pub most : bits ≤ 64
  pub start : IsBeforeStart o begin bits → ⊥
  pub inside : reach_of o begin bits ≤ total

abbrev pub from_of : ℕ → ℕ
from_of begin = begin / 8 - 8

abbrev pub offset_of : ℕ → ℕ
offset_of begin = 8 * (begin / 8 - from_of begin) + begin % 8

pub record IsSeen (o : Order) (begin bits k : ℕ) (bytes : List ℕ) : Type 0 where
  pub size : IsBadSize (offset_of begin) bits → ⊥
  pub start : IsBeforeStart o (offset_of begin) bits → ⊥
  pub reach : reach_of o (offset_of begin) bits ≤ 17
  pub same : field_at o begin bits (bytes ++ replicate k 0) ≡ field_at o (offset_of begin) bits (take 17 (drop (from_of begin) bytes ++ replicate 17 0))

begin_is : (begin : ℕ) → begin ≡ 8 * from_of begin + offset_of begin
begin_is begin = omega arith

fine_size : (offset bits : ℕ) → 1 ≤ bits → bits ≤ 64 → offset ≤ 71 → is_bad_size offset bits ≡ false
fine_size offset bits some most small =
    let a : (bits == 0) ≡ false = grind (arith, nat_tests) in
    let b : nat_lt 64 bits ≡ false = grind (arith, nat_tests) in
    let c : nat_lt last_place (offset + bits) ≡ false = grind (arith, nat_tests) in
    rw (a, b, c) refl

good_size : (begin bits : ℕ) → 1 ≤ bits → bits ≤ 64 → IsBadSize (offset_of begin) bits → ⊥
good_size begin bits some most h = false≢true (sym (fine_size (offset_of begin) bits some most (omega arith)) ∙ h)

whole_same : (begin bits : ℕ) → is_whole (offset_of begin) bits ≡ is_whole begin bits
whole_same begin bits = let e : offset_of begin % 8 ≡ begin % 8 = omega arith in rw e refl

below : (m n : ℕ) → nat_lt m n ≡ true → m < n
below m n h = grind (arith, nat_tests)

is_below : (m n : ℕ) → m < n → nat_lt m n ≡ true
is_below m n h = grind (arith, nat_tests)

good_start : (o : Order) (begin bits : ℕ) → 1 ≤ bits → bits ≤ 64 → (IsBeforeStart o begin bits → ⊥) → IsBeforeStart o (offset_of begin) bits → ⊥
good_start Big begin bits some most ok h = false≢true h
good_start Little begin bits some most ok h =
    let parts = and_parts (not (is_whole (offset_of begin) bits)) (nat_lt (offset_of begin / 8 + 1) (span (offset_of begin) bits)) h in
    let e : not (is_whole begin bits) ≡ true = ap not (sym (whole_same begin bits)) ∙ parts.0 in
    let late : offset_of begin / 8 + 1 < span (offset_of begin) bits = below (offset_of begin / 8 + 1) (span (offset_of begin) bits) parts.1 in
    ok (and_from (not (is_whole begin bits)) (nat_lt (begin / 8 + 1) (span begin bits)) e (is_below (begin / 8 + 1) (span begin bits) (omega arith)))

reach_cases : (offset bits : ℕ) (b : Bool) → is_whole offset bits ≡ b → 1 ≤ bits → bits ≤ 64 → offset ≤ 71 → reach_of Little offset bits ≤ 17
reach_cases offset bits true e some most small = rw e (omega arith)
reach_cases offset bits false e some most small = rw e (omega arith)

few_reached : (o : Order) (begin bits : ℕ) → 1 ≤ bits → bits ≤ 64 → reach_of o (offset_of begin) bits ≤ 17
few_reached Big begin bits some most = omega arith
few_reached Little begin bits some most = reach_cases (offset_of begin) bits (is_whole (offset_of begin) bits) refl some most (omega arith)

reach_shift_by : (begin bits : ℕ) (b : Bool) → is_whole begin bits ≡ b → reach_of Little begin bits ≡ from_of begin + reach_of Little (offset_of begin) bits
reach_shift_by begin bits true e = let w = whole_same begin bits ∙ e in rw (e, w) (omega arith)
reach_shift_by begin bits false e = let w = whole_same begin bits ∙ e in rw (e, w) (omega arith)

reach_shift : (o : Order) (begin bits : ℕ) → reach_of o begin bits ≡ from_of begin + reach_of o (offset_of begin) bits
reach_shift Big begin bits = omega arith
reach_shift Little begin bits = reach_shift_by begin bits (is_whole begin bits) refl

pub seen : (o : Order) (begin bits k : ℕ) (bytes : List ℕ) → HasField o begin bits (length bytes + k) → IsSeen o begin bits k bytes
seen o begin bits k bytes f =
    let start = good_start o begin bits f.some f.most f.start in
    let few = few_reached o begin bits f.some f.most in
    let far = reach_shift o begin bits in
    let inside = f.inside in
    let front = span_le_reach o (offset_of begin) bits f.some start in
    let all : List ℕ = bytes ++ replicate k 0 in
    let window = window_same (reach_of o (offset_of begin) bits) (from_of begin) k bytes few (omega arith) in
    record {
      size = good_size begin bits f.some f.most;
      start = start;
      reach = few;
      same = ap (λ (n : ℕ). field_at o n bits all) (begin_is begin) ∙ field_shift o (from_of begin) (offset_of begin) bits all front
          ∙ field_same o (offset_of begin) bits (drop (from_of begin) all) (take 17 (drop (from_of begin) bytes ++ replicate 17 0)) window;
    }

-- ---- the window as it is filled

pub fill_is : (n m : ℕ) (rest : List ℕ) → n ≤ m → take (min (length rest) n) rest ++ drop (min (length rest) n) (zeros n) ≡ take n (rest ++ zeros m)
unfolding zeros
fill_is zero m rest h = let e : min (length rest) 0 ≡ 0 = omega arith in rw e refl
fill_is (suc n) m [] h =
    let e : min 0 (suc n) ≡ 0 = omega arith in
    let z = take-replicate {X = ℕ} (suc n) m 0 h in
    rw (e, z) refl
fill_is (suc n) m (x ∷ rest) h =
    let e : min (suc (length rest)) (suc n) ≡ suc (min (length rest) n) = omega arith in
    let more = fill_is n m rest (omega arith) in
    rw (e, more) refl

pub drop_within : (from : ℕ) (bytes : List ℕ) → drop (min from (length bytes)) bytes ≡ drop from bytes
drop_within zero bytes = let e : min 0 (length bytes) ≡ 0 = omega arith in rw e refl
drop_within (suc n) [] = let e : min (suc n) 0 ≡ 0 = omega arith in rw e refl
drop_within (suc n) (x ∷ bytes) = let e : min (suc n) (suc (length bytes)) ≡ suc (min n (length bytes)) = omega arith in rw e (drop_within n bytes)

pub window_is : (from at held : ℕ) (bytes : List ℕ) → at ≡ min from (length bytes) → held ≡ min (length (drop at bytes)) 17
    → take held (drop at bytes) ++ drop held (replicate 17 0) ≡ take 17 (drop from bytes ++ replicate 17 0)
unfolding zeros
window_is from at held bytes e f =
    let rest : drop at bytes ≡ drop from bytes = ap (λ (n : ℕ). drop n bytes) e ∙ drop_within from bytes in
    let filled = fill_is 17 17 (drop at bytes) (omega arith) in
    ap (λ (n : ℕ). take n (drop at bytes) ++ drop n (replicate 17 0)) f ∙ filled ∙ ap (λ (t : List ℕ). take 17 (t ++ replicate 17 0)) rest

pub window_copied : (from at held : ℕ) (bytes rest self : List ℕ) → at ≡ min from (length bytes) → rest ≡ drop at bytes → held ≡ min (length rest) 17 → self ≡ take held rest
    → self ++ drop held (replicate 17 0) ≡ take 17 (drop from bytes ++ replicate 17 0)
window_copied from at held bytes rest self e r f copied =
    let g : held ≡ min (length (drop at bytes)) 17 = f ∙ ap (λ (t : List ℕ). min (length t) 17) r in
    let front : self ≡ take held (drop at bytes) = copied ∙ ap (take held) r in
    ap (λ (t : List ℕ). t ++ drop held (replicate 17 0)) front ∙ window_is from at held bytes e g

length-zeros : (k : ℕ) → length (zeros k) ≡ k
unfolding zeros
length-zeros k = length-replicate k 0

pub window_length : (from : ℕ) (bytes : List ℕ) → length (take 17 (drop from bytes ++ replicate 17 0)) ≡ 17
unfolding zeros
window_length from bytes =
    let z = length-zeros 17 in
    let all = length-append (drop from bytes) (zeros 17) in
    length-take-le 17 (drop from bytes ++ zeros 17) (omega arith)
