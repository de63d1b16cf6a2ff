-- What the first bytes decide stays when more bytes come.
use Rattle.std.proofs.Common.{◌≡◌, ℕ, zero, suc, ◌+◌, ◌-◌, ◌/◌, ◌≤◌, ◌<◌, ◌⊎◌, inl, inr, Bool, true, false, ◌&&◌, cond, List, [], ◌∷◌, ◌++◌, length, take, drop, refl, sym, ◌∙◌, ap, arith, Option, Some, None}
use Rattle.std.specs.Prelude.{nat_le, nat_lt, ◌==◌, option_map, slice_range, reverse}
use Rattle.std.proofs.lemmas.List.{take_at, take-append-le, drop-append-le, length-drop}
use Rattle.std.proofs.lemmas.Bool.Decides.{nat_tests}
use Rattle.std.proofs.lemmas.Grind.{flat_map-append}
use Rattle.cts_bits.proofs.BitLists.{length-bits_of}
use Rattle.cts_bits.specs.declared.order.Order.{Order}
use Rattle.cts_bits.specs.declared.order.Order.TheVariants.{Big, Little}
use Rattle.cts_bits.specs.Bits.{bits_of, byte_bits, number_of_bits}
use Rattle.cts_bits.specs.Fields.{field_at, run_start}
use Rattle.cts_bits.specs.Places.{reach_of, is_whole, span}
use Rattle.cts_framing.specs.Framing.{BeginsWith, Agree}
use Rattle.cts_framing.specs.Patterns.{begins, first_place}

-- fronts of one length of one list are one
pub same_front : (w v x y : List ℕ) → length w ≡ length v → w ++ x ≡ v ++ y → w ≡ v
same_front w v x y l e = sym (take_at w x (length w) refl) ∙ (ap (take (length w)) e ∙ take_at v y (length w) (sym l))

pub take_turns : (i j : ℕ) (v : List ℕ) → take i (take j v) ≡ take j (take i v)
take_turns zero zero v = refl
take_turns zero (suc j) v = refl
take_turns (suc i) zero v = refl
take_turns (suc i) (suc j) [] = refl
take_turns (suc i) (suc j) (x ∷ v) = ap (λ l. x ∷ l) (take_turns i j v)

-- ---- patterns

pub and_tells : (a b : Bool) → (a && b) ≡ true → (a ≡ true) × (b ≡ true)
and_tells true b h = (refl, h)
and_tells false b h = cc

pub le_tells : (m n : ℕ) → nat_le m n ≡ true → m ≤ n
le_tells m n h = grind (arith, nat_tests)

pub le_test : (m n : ℕ) → m ≤ n → nat_le m n ≡ true
le_test m n h = grind (arith, nat_tests)

pub lt_tells : (m n : ℕ) → nat_lt m n ≡ true → m < n
lt_tells m n h = grind (arith, nat_tests)

pub lt_test : (m n : ℕ) → m < n → nat_lt m n ≡ true
lt_test m n h = grind (arith, nat_tests)

pub not_lt_tells : (m n : ℕ) → nat_lt m n ≡ false → n ≤ m
not_lt_tells m n h = grind (arith, nat_tests)

pub not_lt_test : (m n : ℕ) → n ≤ m → nat_lt m n ≡ false
not_lt_test m n h = grind (arith, nat_tests)

pub same_tells : (c x : ℕ) → (c == x) ≡ true → c ≡ x
same_tells c x h = grind (arith, nat_tests)

pub same_test : (c x : ℕ) → c ≡ x → (c == x) ≡ true
same_test c x h = grind (arith, nat_tests)

pub begins_more : (s u y : List ℕ) → begins s u ≡ true → begins s (u ++ y) ≡ true
begins_more [] u y h = refl
begins_more (c ∷ s) [] y h = cc
begins_more (c ∷ s) (x ∷ u) y h =
    let t = and_tells (c == x) (begins s u) h in
    rw (t.0, begins_more s u y t.1) refl

-- what the test of a pattern tells
pub begins_tells : (s u : List ℕ) → begins s u ≡ true → BeginsWith s u
begins_tells [] u h = (u, refl)
begins_tells (c ∷ s) [] h = cc
begins_tells (c ∷ s) (x ∷ u) h =
    let t = and_tells (c == x) (begins s u) h in
    let e : x ≡ c = sym (same_tells c x t.0) in
    let r = begins_tells s u t.1 in
    (r.0, λ i. e i ∷ r.1 i)

pub begins_length : (s u : List ℕ) → begins s u ≡ true → length s ≤ length u
begins_length [] u h = omega arith
begins_length (c ∷ s) [] h = cc
begins_length (c ∷ s) (x ∷ u) h =
    let t = and_tells (c == x) (begins s u) h in
    omega (arith, begins_length s u t.1)

-- what agrees with a pattern and has as many bytes begins with it
pub agree_begins : (s u : List ℕ) → length s ≤ length u → Agree s u → begins s u ≡ true
agree_begins [] u l a = refl
agree_begins (c ∷ s) [] l a = absurd (omega (arith, l))
agree_begins (c ∷ s) (x ∷ u) l a = rw (same_test c x a.0, agree_begins s u (omega (arith, l)) a.1) refl

-- a pattern that has room begins with more bytes where it begins without them
pub begins_less : (s u y : List ℕ) → length s ≤ length u → begins s (u ++ y) ≡ begins s u
begins_less [] u y h = refl
begins_less (c ∷ s) [] y h = absurd (omega (arith, h))
begins_less (c ∷ s) (x ∷ u) y h = ap (λ b. (c == x) && b) (begins_less s u y (omega (arith, h)))

pub begins_front : (s u : List ℕ) → begins s (s ++ u) ≡ true
begins_front [] u = refl
begins_front (c ∷ s) u = rw (same_test c c refl, begins_front s u) refl

map_suc_tells : (o : Option ℕ) (k : ℕ) → option_map suc o ≡ Some k → (j : ℕ) × (o ≡ Some j) × (k ≡ suc j)
map_suc_tells None k h = cc
map_suc_tells (Some j) k h = (j, refl, (cc))

pub fits_nil : (t : List ℕ) (k : ℕ) → first_place t [] ≡ Some k → (begins t [] ≡ true) × (k ≡ 0)
fits_nil [] k h = (refl, (cc))
fits_nil (c ∷ t) k h = cc

pub first_by : (b : Bool) (o : Option ℕ) (k : ℕ) → cond b (Some 0) (option_map suc o) ≡ Some k
    → ((b ≡ true) × (k ≡ 0)) ⊎ ((b ≡ false) × ((j : ℕ) × (o ≡ Some j) × (k ≡ suc j)))
first_by true o k h = inl (refl, (cc))
first_by false o k h = inr (refl, map_suc_tells o k h)

-- where a pattern stands leftmost, it has room
pub first_fits : (t u : List ℕ) (k : ℕ) → first_place t u ≡ Some k → k + length t ≤ length u
first_fits t [] k h = let b = fits_nil t k h in omega (arith, begins_length t [] b.0, b.1)
first_fits t (x ∷ u) k h = elim (first_by (begins t (x ∷ u)) (first_place t u) k h) [
  | inl a ↦ omega (arith, begins_length t (x ∷ u) a.0, a.1)
  | inr b ↦ omega (arith, first_fits t u b.1.0 b.1.1, b.1.2)
]

pub first_zero : (t u : List ℕ) → begins t u ≡ true → first_place t u ≡ Some 0
first_zero t [] h = rw h refl
first_zero t (x ∷ u) h = rw h refl

-- and stands leftmost there when more bytes come
pub first_append : (t u y : List ℕ) (k : ℕ) → first_place t u ≡ Some k → first_place t (u ++ y) ≡ Some k
first_append t [] y k h = let b = fits_nil t k h in first_zero t y (begins_more t [] y b.0) ∙ ap Some (sym b.1)
first_append t (x ∷ u) y k h = elim (first_by (begins t (x ∷ u)) (first_place t u) k h) [
  | inl a ↦ first_zero t (x ∷ (u ++ y)) (begins_more t (x ∷ u) y a.0) ∙ ap Some (sym a.1)
  | inr b ↦
      let room : length t ≤ length (x ∷ u) = omega (arith, first_fits t u b.1.0 b.1.1) in
      let not_here : begins t (x ∷ (u ++ y)) ≡ false = begins_less t (x ∷ u) y room ∙ b.0 in
      rw (not_here, first_append t u y b.1.0 b.1.1) (ap Some (sym b.1.2))
]

-- ---- fields

bits_of_append : (u y : List ℕ) → bits_of (u ++ y) ≡ bits_of u ++ bits_of y
unfolding bits_of
bits_of_append u y = flat_map-append byte_bits u y

take_drop_front : (n a : ℕ) (u y : List ℕ) → a + n ≤ length u → take n (drop a (u ++ y)) ≡ take n (drop a u)
take_drop_front n a u y h =
    let room : n ≤ length (drop a u) = omega (arith, length-drop a u) in
    ap (take n) (drop-append-le a u y (omega (arith, h))) ∙ take-append-le n (drop a u) y room

pub range_front : (a b : ℕ) (u y : List ℕ) → a ≤ b → b ≤ length u → slice_range (u ++ y) a b ≡ slice_range u a b
range_front a b u y h l = take_drop_front (b - a) a u y (omega (arith, h, l))

big_front : (offset bits : ℕ) (u y : List ℕ) → (offset + bits + 7) / 8 ≤ length u → take bits (drop offset (bits_of (u ++ y))) ≡ take bits (drop offset (bits_of u))
big_front offset bits u y h =
    ap (λ v. take bits (drop offset v)) (bits_of_append u y) ∙ take_drop_front bits offset (bits_of u) (bits_of y) (omega (arith, length-bits_of u, h))

laid_front : (offset bits : ℕ) (u y : List ℕ) (b : Bool) → (cond b (offset / 8 + bits / 8) (offset / 8 + 1)) ≤ length u
    → cond b (reverse (slice_range (u ++ y) (offset / 8) (offset / 8 + bits / 8))) (reverse (slice_range (u ++ y) (offset / 8 + 1 - span offset bits) (offset / 8 + 1)))
    ≡ cond b (reverse (slice_range u (offset / 8) (offset / 8 + bits / 8))) (reverse (slice_range u (offset / 8 + 1 - span offset bits) (offset / 8 + 1)))
laid_front offset bits u y true h = ap reverse (range_front (offset / 8) (offset / 8 + bits / 8) u y (omega arith) h)
laid_front offset bits u y false h = ap reverse (range_front (offset / 8 + 1 - span offset bits) (offset / 8 + 1) u y (omega arith) h)

-- a field is read from the bytes that it reaches
pub field_front : (o : Order) (offset bits : ℕ) (u y : List ℕ) → reach_of o offset bits ≤ length u → field_at o offset bits (u ++ y) ≡ field_at o offset bits u
unfolding field_at
field_front Big offset bits u y h = ap number_of_bits (big_front offset bits u y h)
field_front Little offset bits u y h =
    ap (λ v. number_of_bits (take bits (drop (run_start Little offset bits) (bits_of v)))) (laid_front offset bits u y (is_whole offset bits) h)
