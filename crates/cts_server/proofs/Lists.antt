-- One more element of a list that is gone through by its numbers.
use Rattle.std.proofs.Common.{◌≡◌, ℕ, ◌+◌, ◌≤◌, Bool, true, false, ◌||◌, List, take, get_or, Some, ◌∙◌, ap, subst}
use Rattle.std.specs.Prelude.{slice_get, sum_by}
use Rattle.std.specs.List.{list_any}
use Rattle.std.proofs.lemmas.List.Folds.{list_any_at, list_any_more}
use Rattle.std.proofs.lemmas.List.Sums.{sum_by_more, sum_by_more_le}
use Rattle.std.proofs.lemmas.Option.{get_or_from_slice_get, slice_get_within}

module _ {X : Type 0} where
  pub any_more : (p : X → Bool) (xs : List X) (n : ℕ) (x : X) → slice_get xs n ≡ Some x → list_any p (take n xs) ≡ false → p x ≡ false
      → list_any p (take (n + 1) xs) ≡ false
  any_more p xs n x at none e =
      list_any_more p xs n x (slice_get_within xs n x at) ∙ (ap (λ (b : Bool). b || p (get_or xs n x)) none ∙ (ap p (get_or_from_slice_get xs n x x at) ∙ e))

  pub any_there : (p : X → Bool) (xs : List X) (n : ℕ) (x : X) → slice_get xs n ≡ Some x → p x ≡ true → list_any p xs ≡ true
  any_there p xs n x at e = list_any_at p xs n x (slice_get_within xs n x at) (ap p (get_or_from_slice_get xs n x x at) ∙ e)

  pub sum_more : (f : X → ℕ) (xs : List X) (n : ℕ) (x : X) → slice_get xs n ≡ Some x → sum_by f (take (n + 1) xs) ≡ sum_by f (take n xs) + f x
  sum_more f xs n x at = sum_by_more f xs n x (slice_get_within xs n x at) ∙ ap (λ (y : X). sum_by f (take n xs) + f y) (get_or_from_slice_get xs n x x at)

  pub sum_within : (f : X → ℕ) (xs : List X) (n : ℕ) (x : X) → slice_get xs n ≡ Some x → sum_by f (take n xs) + f x ≤ sum_by f xs
  sum_within f xs n x at = subst (λ (y : X). sum_by f (take n xs) + f y ≤ sum_by f xs) (get_or_from_slice_get xs n x x at)
      (sum_by_more_le f xs n x (slice_get_within xs n x at))
