-- What a field holds has a spelling in it.
use Rattle.std.proofs.Common.{◌≡◌, ℕ, zero, suc, ℤ, pos, negsuc, ◌-◌, ◌*◌, ◌^◌, ◌≤◌, ◌<◌, ◌-ℤ◌, Bool, true, false, refl, ap, ◌∙◌, arith, inl, inr, unsigned_abs}
use Rattle.std.specs.Prelude.{int_lt, nat_le, nat_lt, neg_ℤ, if◌then◌else◌}
use Rattle.std.specs.Int.{int_rem_euclid, is_negative}
use Rattle.std.proofs.Math.Nat.{mod-lt, pow-suc}
use Rattle.std.proofs.lemmas.Bool.{cases_lt, le-ltb, lt-ltb}
use Rattle.std.proofs.lemmas.Bool.Decides.{nat_tests}
use Rattle.std.proofs.lemmas.Int.{ints}
use Rattle.std.proofs.lemmas.Nat.{pow_pos}
use Rattle.cts_bits.specs.Bits.{twos_complement}
use Rattle.cts_def.specs.declared.item_kind.ItemKind.{ItemKind}
use Rattle.cts_def.specs.declared.item_kind.ItemKind.TheVariants.{Uint, Int, Str, Block}
use Rattle.cts_def.specs.declared.item_kind.Overflow.{Overflow}
use Rattle.cts_def.specs.declared.item_kind.Overflow.TheVariants.{Error, Truncate, Saturate}
use Rattle.cts_def.specs.Items.{ItemData}
use Rattle.cts_def.specs.Spans.{is_number, is_signed, is_spelled}
use Rattle.cts_cmd.specs.Contents.{bent, greatest, least, low_bits, written_number}
use Rattle.cts_cmd.proofs.OneCommand.{number_of}

-- ---- spelled numbers

not_negative : (n : ℕ) → is_negative (pos n) ≡ false
not_negative n = grind (arith, nat_tests)

double : (bits : ℕ) → 1 ≤ bits → 2 ^ bits ≡ 2 ^ (bits - 1) * 2
double zero some = absurd (omega (arith, some))
double (suc k) some = let back : suc k - 1 ≡ k = omega arith in rw back (pow-suc 2 k)

uint_spelled : (bits n : ℕ) → n < 2 ^ bits → is_spelled Uint bits (pos n) ≡ true
uint_spelled bits n h = rw (not_negative n) (lt-ltb n (2 ^ bits) h)

int_spelled : (bits n : ℕ) → n < 2 ^ (bits - 1) → is_spelled Int bits (pos n) ≡ true
int_spelled bits n h = rw (not_negative n) (lt-ltb n (2 ^ (bits - 1)) h)

below_spelled : (bits n : ℕ) → suc n ≤ 2 ^ (bits - 1) → is_spelled Int bits (negsuc n) ≡ true
below_spelled bits n h = grind (arith, nat_tests)

-- ---- low bits

rem_small : (z : ℤ) (m : ℕ) → 0 < m → unsigned_abs (int_rem_euclid z (pos m)) < m
rem_small (pos a) m h = mod-lt a h
rem_small (negsuc a) m h = let low = mod-lt a h in omega (arith, low, h)

-- a difference below 0
below : (x p : ℕ) → x < p → pos x -ℤ pos p ≡ negsuc (p - x - 1)
below x p h = omega (arith, ints, h)

twos_spelled : (bits x : ℕ) → 1 ≤ bits → x < 2 ^ bits → is_spelled Int bits (twos_complement bits x) ≡ true
twos_spelled bits x some h = elim (cases_lt x (2 ^ (bits - 1))) [
  | inl low ↦
      let e : twos_complement bits x ≡ pos x = rw (lt-ltb x (2 ^ (bits - 1)) low) refl in
      ap (is_spelled Int bits) e ∙ int_spelled bits x low
  | inr high ↦
      let e : twos_complement bits x ≡ pos x -ℤ pos (2 ^ bits) = rw (le-ltb x (2 ^ (bits - 1)) high) refl in
      let d = double bits some in
      ap (is_spelled Int bits) (e ∙ below x (2 ^ bits) h) ∙ below_spelled bits (2 ^ bits - x - 1) (omega (arith, d, high, h))
]

low_spelled : (kind : ItemKind) (bits : ℕ) (z : ℤ) → is_number kind ≡ true → 1 ≤ bits → is_spelled kind bits (low_bits kind bits z) ≡ true
low_spelled Uint bits z number some = uint_spelled bits (unsigned_abs (int_rem_euclid z (pos (2 ^ bits)))) (rem_small z (2 ^ bits) (pow_pos bits))
low_spelled Int bits z number some = twos_spelled bits (unsigned_abs (int_rem_euclid z (pos (2 ^ bits)))) some (rem_small z (2 ^ bits) (pow_pos bits))
low_spelled Str bits z number some = absurd (let no : false ≡ true = number in cc)
low_spelled Block bits z number some = absurd (let no : false ≡ true = number in cc)

-- ---- the nearer bound

least_int : (n p : ℕ) → p ≡ suc n → neg_ℤ (pos p) ≡ negsuc n
least_int n p e = ap (λ (x : ℕ). neg_ℤ (pos x)) e

least_spelled : (kind : ItemKind) (bits : ℕ) → is_number kind ≡ true → is_spelled kind bits (least kind bits) ≡ true
least_spelled Uint bits number = uint_spelled bits 0 (pow_pos bits)
least_spelled Int bits number =
    let some = pow_pos (bits - 1) in
    let e : 2 ^ (bits - 1) ≡ suc (2 ^ (bits - 1) - 1) = omega (arith, some) in
    ap (is_spelled Int bits) (least_int (2 ^ (bits - 1) - 1) (2 ^ (bits - 1)) e) ∙ below_spelled bits (2 ^ (bits - 1) - 1) (omega (arith, some))
least_spelled Str bits number = absurd (let no : false ≡ true = number in cc)
least_spelled Block bits number = absurd (let no : false ≡ true = number in cc)

greatest_spelled : (kind : ItemKind) (bits : ℕ) → is_number kind ≡ true → is_spelled kind bits (greatest kind bits) ≡ true
greatest_spelled Uint bits number = let some = pow_pos bits in uint_spelled bits (2 ^ bits - 1) (omega (arith, some))
greatest_spelled Int bits number = let some = pow_pos (bits - 1) in int_spelled bits (2 ^ (bits - 1) - 1) (omega (arith, some))
greatest_spelled Str bits number = absurd (let no : false ≡ true = number in cc)
greatest_spelled Block bits number = absurd (let no : false ≡ true = number in cc)

nearest_by : (test : Bool) (kind : ItemKind) (bits : ℕ) → is_number kind ≡ true → is_spelled kind bits (if test then least kind bits else greatest kind bits) ≡ true
nearest_by true kind bits number = least_spelled kind bits number
nearest_by false kind bits number = greatest_spelled kind bits number

-- ---- what is written

bent_spelled : (overflow : Overflow) (kind : ItemKind) (bits : ℕ) (z : ℤ) → is_number kind ≡ true → 1 ≤ bits → is_spelled kind bits (bent overflow kind bits z) ≡ true
bent_spelled Error kind bits z number some = low_spelled kind bits z number some
bent_spelled Truncate kind bits z number some = low_spelled kind bits z number some
bent_spelled Saturate kind bits z number some = nearest_by (int_lt z (least kind bits)) kind bits number

written_by : (fits : Bool) (i : ItemData) (z : ℤ) → is_spelled i.kind (unsigned_abs i.size) z ≡ fits → is_number i.kind ≡ true → 1 ≤ unsigned_abs i.size
    → is_spelled i.kind (unsigned_abs i.size) (if fits then z else bent i.overflow i.kind (unsigned_abs i.size) z) ≡ true
written_by true i z e number some = e
written_by false i z e number some = bent_spelled i.overflow i.kind (unsigned_abs i.size) z number some

pub written_spelled : (i : ItemData) (z : ℤ) → is_number i.kind ≡ true → 1 ≤ unsigned_abs i.size → is_spelled i.kind (unsigned_abs i.size) (written_number i z) ≡ true
written_spelled i z number some = written_by (is_spelled i.kind (unsigned_abs i.size) z) i z refl number some

-- ---- the number of a field's bits

-- The bits' number, as which a number of a kind stands in its field.
pub record StandsAs (kind : ItemKind) (bits : ℕ) (z : ℤ) : Type 0 where
  pub code : ℕ
  pub small : code < 2 ^ bits
  pub means : number_of (is_signed kind) bits code ≡ z

less_of : (a b : ℕ) → nat_lt a b ≡ true → a < b
less_of a b e = grind (arith, nat_tests)

most_of : (a b : ℕ) → nat_le a b ≡ true → a ≤ b
most_of a b e = grind (arith, nat_tests)

int_stands : (bits n : ℕ) → 1 ≤ bits → n < 2 ^ (bits - 1) → StandsAs Int bits (pos n)
int_stands bits n some low = let d = double bits some in record { code = n; small = omega (arith, d, low); means = rw (lt-ltb n (2 ^ (bits - 1)) low) refl }

below_stands : (bits n : ℕ) → 1 ≤ bits → suc n ≤ 2 ^ (bits - 1) → StandsAs Int bits (negsuc n)
below_stands bits n some high =
    let d = double bits some in
    let code : ℕ = 2 ^ bits - suc n in
    let above : 2 ^ (bits - 1) ≤ code = omega (arith, d, high) in
    let small : code < 2 ^ bits = omega (arith, d, high) in
    let back : 2 ^ bits - code - 1 ≡ n = omega (arith, d, high) in
    record { code = code; small = small; means = rw (le-ltb code (2 ^ (bits - 1)) above) (below code (2 ^ bits) small ∙ ap negsuc back) }

pub stands_as : (kind : ItemKind) (bits : ℕ) (z : ℤ) → is_number kind ≡ true → 1 ≤ bits → is_spelled kind bits z ≡ true → StandsAs kind bits z
stands_as Uint bits (pos n) number some h = record { code = n; small = less_of n (2 ^ bits) (rw (not_negative n) at h); means = refl }
stands_as Uint bits (negsuc n) number some h = absurd (let no : false ≡ true = h in cc)
stands_as Int bits (pos n) number some h = int_stands bits n some (less_of n (2 ^ (bits - 1)) (rw (not_negative n) at h))
stands_as Int bits (negsuc n) number some h = below_stands bits n some (most_of (suc n) (2 ^ (bits - 1)) h)
stands_as Str bits z number some h = absurd (let no : false ≡ true = number in cc)
stands_as Block bits z number some h = absurd (let no : false ≡ true = number in cc)
