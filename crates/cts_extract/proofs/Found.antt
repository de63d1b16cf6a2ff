-- What is found stands at its place.
use Rattle.std.proofs.Common.{◌≡◌, ℕ, ◌≤◌, Bool, true, false, cond, List, length, nat_lt, refl, ◌∙◌, ap, arith, Some, None}
use Rattle.std.specs.Prelude.{slice_get}
use Rattle.std.specs.List.{find, position, position_or_len}
use Rattle.std.proofs.lemmas.List.Folds.{find_at}
use Rattle.std.proofs.lemmas.Option.{slice_get_past}
use Rattle.std.proofs.lemmas.Bool.Decides.{nat_tests}

at_by : (b : Bool) (k n : ℕ) → cond b (Some k) None ≡ Some n → k ≡ n
at_by true k n h = cc
at_by false k n h = cc

past_by : (b : Bool) (k : ℕ) → cond b (Some k) None ≡ None → b ≡ false
past_by true k h = cc
past_by false k h = refl

not_within : (n k : ℕ) → nat_lt n k ≡ false → k ≤ n
not_within n k h = grind (arith, nat_tests)

module _ {X : Type 0} (test : X → Bool) (xs : List X) where
  pub found_at : (n : ℕ) → position test xs ≡ Some n → find test xs ≡ slice_get xs n
  found_at n h = find_at test xs ∙ ap (slice_get xs) (at_by (nat_lt (position_or_len test xs) (length xs)) (position_or_len test xs) n h)

  pub found_nowhere : position test xs ≡ None → find test xs ≡ None
  found_nowhere h =
      let past : nat_lt (position_or_len test xs) (length xs) ≡ false = past_by (nat_lt (position_or_len test xs) (length xs)) (position_or_len test xs) h in
      find_at test xs ∙ slice_get_past xs (position_or_len test xs) (not_within (position_or_len test xs) (length xs) past)
