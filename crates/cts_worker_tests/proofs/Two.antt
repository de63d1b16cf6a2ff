-- The makers of two passes and of the one that is left.
use Rattle.std.proofs.Common.{◌≡◌, ℕ, ◌<◌, ◌||◌, true, false, List, [], ◌∷◌, ◌++◌, sym, refl, ap, subst, ⊎_elim, arith, eq-eqb}
use Rattle.cts_turn.specs.Lists.{has, makers_from}
use Rattle.cts_turn.proofs.Makers.{has_from, has_left_part, has_right_part}
use Rattle.std.proofs.lemmas.Bool.Decides.{eqb_tells, leb_tells}
use Rattle.cts_turn.specs.Passes.{HasAll}

pub first_of_two : (a b x : List ℕ) → b ≡ 0 ∷ [] → x ≡ a ++ b → (has 0 b ≡ true) × (has 0 x ≡ true)
first_of_two a b x e j = let h = subst (λ l. has 0 l ≡ true) (sym e) (eq-eqb 0 0 refl) in (h, subst (λ l. has 0 l ≡ true) (sym j) (has_right_part 0 a b h))

pub all_of_two : (a b c x y : List ℕ) → a ≡ makers_from 2 → b ≡ 0 ∷ [] → c ≡ 1 ∷ [] → x ≡ a ++ b → y ≡ x ++ c → HasAll y
all_of_two a b c x y e f h j k m lt = subst (λ l. has m l ≡ true) (sym k) (⊎_elim
    (λ t. has_left_part m x c (subst (λ l. has m l ≡ true) (sym j) (has_left_part m a b (subst (λ l. has m l ≡ true) (sym e) (has_from 2 m t.1 lt)))))
    (λ t. let small : m < 2 = t.1 in ⊎_elim
    (λ z. has_right_part m x c (subst (λ l. has m l ≡ true) (sym h) (ap (λ b. b || false) (eq-eqb 1 m (let q : 1 ≡ m = z.1 in q)))))
    (λ z. let ne = z.1 in let zero_is : 0 ≡ m = omega (arith, ne) in has_left_part m x c (subst (λ n. has n x ≡ true) zero_is (first_of_two a b x f j).1))
    (eqb_tells 1 m))
    (leb_tells 2 m))

pub one_has : (c : List ℕ) → c ≡ 1 ∷ [] → has 1 c ≡ true
one_has c e = subst (λ l. has 1 l ≡ true) (sym e) (ap (λ b. b || false) (eq-eqb 1 1 refl))
