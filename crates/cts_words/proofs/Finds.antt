-- The first one of a list that passes a test.
use Rattle.std.proofs.Common.{◌≡◌, Bool, true, false, cond, List, [], ◌∷◌, ◌++◌, Option, Some, None, refl, ap, ◌∙◌}
use Rattle.std.specs.Prelude.{find}
use Rattle.std.specs.List.{AllByRecursion}
use Rattle.cts_words.specs.Refusals.{or_else}

none_step : {X : Type 0} (b : Bool) (p : X → Bool) (x : X) (xs : List X) → p x ≡ b → (find p xs ≡ None → AllByRecursion (λ y. p y ≡ false) xs) → find p (x ∷ xs) ≡ None → (p x ≡ false) × AllByRecursion (λ y. p y ≡ false) xs
none_step true p x xs e h none = absurd (let some = rw e at none in cc)
none_step false p x xs e h none = (e, h (rw e at none))

-- Where none is found, none passes.
pub none_passes : {X : Type 0} (p : X → Bool) (xs : List X) → find p xs ≡ None → AllByRecursion (λ y. p y ≡ false) xs
none_passes p [] none = tt
none_passes p (x ∷ xs) none = none_step (p x) p x xs refl (none_passes p xs) none

found_or_else : {X : Type 0} (b : Bool) (x : X) (front rest : Option X) → cond b (Some x) (or_else front rest) ≡ or_else (cond b (Some x) front) rest
found_or_else true x front rest = refl
found_or_else false x front rest = refl

-- The first one of two lists is that of the first list, or else that of the second.
pub find-append : {X : Type 0} (p : X → Bool) (xs ys : List X) → find p (xs ++ ys) ≡ or_else (find p xs) (find p ys)
find-append p [] ys = refl
find-append p (x ∷ xs) ys = ap (cond (p x) (Some x)) (find-append p xs ys) ∙ found_or_else (p x) x (find p xs) (find p ys)
