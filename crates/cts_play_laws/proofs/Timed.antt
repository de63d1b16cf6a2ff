-- The times of a history, one after another.
use Rattle.std.proofs.Common.{◌≡◌, ℕ, zero, suc, ◌+◌, ◌≤◌, List, [], ◌∷◌, length, drop, subst, sym, arith, Some}
use Rattle.std.specs.Prelude.{slice_get}
use Rattle.cts_entry.specs.declared.entry.Entry.{Entry}
use Rattle.cts_play_laws.specs.Handing.{IsShortTime}
use Rattle.cts_play_laws.specs.Hubs.{HaveShortTimes}

-- where the times behind a place are short, all are
abbrev pub AreShortTo : List Entry → ℕ → Type 0
AreShortTo xs n = HaveShortTimes (drop n xs) → HaveShortTimes xs

with_one : (xs : List Entry) (n : ℕ) (e : Entry) → slice_get xs n ≡ Some e → IsShortTime e.time → HaveShortTimes (drop (suc n) xs) → HaveShortTimes (drop n xs)
with_one [] n e is short more = cc
with_one (x ∷ xs) zero e is short more = (let same : x ≡ e = cc in subst (λ (y : Entry). IsShortTime y.time) (sym same) short, more)
with_one (x ∷ xs) (suc n) e is short more = with_one xs n e is short more

pub times_step : (xs : List Entry) (n : ℕ) (e : Entry) → slice_get xs n ≡ Some e → IsShortTime e.time → AreShortTo xs n → AreShortTo xs (n + 1)
times_step xs n e is short to more = let next : n + 1 ≡ suc n = omega arith in to (with_one xs n e is short (subst (λ k. HaveShortTimes (drop k xs)) next more))

none_after : (xs : List Entry) (n : ℕ) → length xs ≤ n → HaveShortTimes (drop n xs)
none_after [] zero l = tt
none_after [] (suc n) l = tt
none_after (x ∷ xs) zero l = absurd (omega (arith, l))
none_after (x ∷ xs) (suc n) l = none_after xs n (omega (arith, l))

pub times_end : (xs : List Entry) (n : ℕ) → length xs ≤ n → AreShortTo xs n → HaveShortTimes xs
times_end xs n l to = to (none_after xs n l)
