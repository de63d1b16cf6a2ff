-- What LENGTH writes it reads again.
use Rattle.std.proofs.Common.{◌≡◌, ℕ, ◌+◌, ◌*◌, ◌/◌, ◌%◌, ◌≤◌, Bool, true, false, ◌&&◌, cond, List, length, refl, sym, ◌∙◌, ap, arith, Some, None}
use Rattle.std.specs.Prelude.{pos, negsuc, ◌+ℤ◌, ◌-ℤ◌, int_lt, nat_le, nat_lt, ◌==◌, unsigned_abs}
use Rattle.std.proofs.Math.Nat.{div-add-mod'}
use Rattle.std.proofs.Math.IntN.{ℤ, -ℤ-+ℤ_cancel}
use Rattle.cts_def.specs.Protocols.{LengthData}
use Rattle.cts_framing.specs.Patterns.{begins}
use Rattle.cts_def.specs.Most.{frame_limit}
use Rattle.cts_framing.specs.Rows.{is_over, reach, length_by, length_states}
use Rattle.cts_encode.specs.Spellings.{HasField, count_by}
use Rattle.cts_framing.specs.Stating.{Long, is_long}
use Rattle.cts_encode.proofs.AgainCut.{is_whole}
use Rattle.cts_encode.proofs.AgainPreidentified.{within_limit}
use Rattle.cts_framing.proofs.Fronts.{same_tells, not_lt_test}

-- a count states the length that it was made from
some_by : (b : Bool) (m k : ℕ) → cond b (Some m) None ≡ Some k → (b ≡ true) × (m ≡ k)
some_by true m k h = (refl, (cc))
some_by false m k h = cc

counted_tells : (z : ℤ) (n k : ℕ) → cond (int_lt z (pos 0)) None (cond (unsigned_abs z % n == 0) (Some (unsigned_abs z / n)) None) ≡ Some k → z ≡ pos (k * n)
counted_tells (pos c) n k h =
    let g : cond (c % n == 0) (Some (c / n)) None ≡ Some k = rw (not_lt_test c 0 (omega arith)) at h in
    let t = some_by (c % n == 0) (c / n) k g in
    let none : c % n ≡ 0 = same_tells (c % n) 0 t.0 in
    let whole : c ≡ c / n * n + c % n = sym (div-add-mod' c n) in
    let all : c ≡ c / n * n = omega (arith, whole, none) in
    ap pos (all ∙ ap (λ m. m * n) t.1)
counted_tells (negsuc c) n k h = cc

put_back : (t c : ℕ) (v : ℤ) → pos t -ℤ v ≡ pos c → pos c +ℤ v ≡ pos t
put_back t c v e = ap (λ z. z +ℤ v) (sym e) ∙ -ℤ-+ℤ_cancel (pos t) v

pub count_by_tells : (v : ℤ) (n t k : ℕ) → count_by v n t ≡ Some k → pos (k * n) +ℤ v ≡ pos t
count_by_tells v n t k h = put_back t (k * n) v (counted_tells (pos t -ℤ v) n k h)

pub not_short : (z : ℕ) (r : ℕ) → r ≤ z → int_lt (pos z) (pos r) ≡ false
not_short z r h = not_lt_test z r h

module _ (l : LengthData) (count : ℕ) (base w : List ℕ) (f : HasField l.place count base w) (length_is : length_by l count ≡ pos (length w)) (over : is_over l.max count ≡ false) (short : nat_lt frame_limit (length w) ≡ false) (reaches : reach l.place ≤ length w) (room : length l.sync ≤ length w) (some : 1 ≤ length w) (begin : begins l.sync w ≡ true) where
  states_are : length_states l w ≡ Long (length w)
  states_are =
      let there : nat_lt (length w) (reach l.place) ≡ false = not_lt_test (length w) (reach l.place) reaches in
      let a = not_short (length w) (reach l.place) reaches in
      let b = not_short (length w) (length l.sync) room in
      rw (there, f.value, over, length_is, a, b, within_limit (length w) short) refl

  pub length_whole : (nat_le 1 (length w) && begins l.sync w && is_long (length_states l w) (length w)) ≡ true
  length_whole = is_whole l.sync (length_states l) w some begin states_are
