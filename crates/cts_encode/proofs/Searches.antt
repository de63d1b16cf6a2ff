-- What a search for a pattern answers is its leftmost place.
use Rattle.std.proofs.Common.{◌≡◌, ℕ, zero, suc, ◌+◌, ◌≤◌, ◌<◌, inl, inr, true, false, List, [], ◌∷◌, length, take, drop, refl, sym, ◌∙◌, ap, subst, arith, Option, Some, None}
use Rattle.std.specs.Prelude.{◌==◌, nat_le}
use Rattle.std.proofs.lemmas.Bool.Decides.{nat_tests}
use Rattle.std.proofs.lemmas.Bool.{cases_Bool, cases_lt}
use Rattle.std.proofs.lemmas.List.{length-drop}
use Rattle.memchr.specs.Find.{OccursAt, FindsNeedle}
use Rattle.memchr.proofs.lemmas.MatchLemmas.{OccursAt-split, OccursAt-from_part}
use Rattle.cts_framing.specs.Patterns.{begins, first_place}
use Rattle.cts_framing.proofs.Fronts.{and_tells, same_tells, begins_length, begins_front, first_by, fits_nil, first_fits}

begins_take : (t v : List ℕ) → begins t v ≡ true → take (length t) v ≡ t
begins_take [] v h = refl
begins_take (c ∷ t) [] h = cc
begins_take (c ∷ t) (x ∷ v) h =
    let p = and_tells (c == x) (begins t v) h in
    let e : c ≡ x = same_tells c x p.0 in
    let r : take (length t) v ≡ t = begins_take t v p.1 in
    cc (e, r)

pub occurs_begins : (u t : List ℕ) (k : ℕ) → OccursAt u t k → begins t (drop k u) ≡ true
occurs_begins u t k h = ap (begins t) (OccursAt-split u t k h) ∙ begins_front t (drop (k + length t) u)

pub begins_occurs : (u t : List ℕ) (k : ℕ) → k ≤ length u → begins t (drop k u) ≡ true → OccursAt u t k
begins_occurs u t k l h =
    OccursAt-from_part u t k (omega (arith, begins_length t (drop k u) h, length-drop k u, l)) (begins_take t (drop k u) h)

-- the pattern stands at its leftmost place
pub first_here : (t u : List ℕ) (k : ℕ) → first_place t u ≡ Some k → begins t (drop k u) ≡ true
first_here t [] k h = let b = fits_nil t k h in ap (begins t) (ap (λ n. drop n []) b.1) ∙ b.0
first_here t (x ∷ u) k h = elim (first_by (begins t (x ∷ u)) (first_place t u) k h) [
  | inl a ↦ ap (λ n. begins t (drop n (x ∷ u))) a.1 ∙ a.0
  | inr b ↦ ap (λ n. begins t (drop n (x ∷ u))) b.1.2 ∙ first_here t u b.1.0 b.1.1
]

-- and a place where it stands is no earlier
pub first_least : (t u : List ℕ) (j : ℕ) → j ≤ length u → begins t (drop j u) ≡ true → (k : ℕ) × (first_place t u ≡ Some k) × (k ≤ j)
first_least t [] j l h =
    let e : j ≡ 0 = omega (arith, l) in
    let z : begins t [] ≡ true = subst (λ n. begins t (drop n []) ≡ true) e h in
    (0, rw z refl, omega arith)
first_least t (x ∷ u) zero l h = (0, rw h refl, omega arith)
first_least t (x ∷ u) (suc j) l h = elim (cases_Bool (begins t (x ∷ u))) [
  | inl here ↦ (0, rw here refl, omega arith)
  | inr later ↦ let r = first_least t u j (omega (arith, l)) h in (suc r.0, rw (later, r.1) refl, omega (arith, r.2))
]

one_place : (m n : ℕ) → Some m ≡ Some n → m ≡ n
one_place m n h = cc

finds_none : (u t : List ℕ) (o : Option ℕ) → first_place t u ≡ o → FindsNeedle u t 0 None → None ≡ o
finds_none u t None e h = refl
finds_none u t (Some k) e h = absurd (h k (omega arith) (omega (arith, first_fits t u k e)) (begins_occurs u t k (omega (arith, first_fits t u k e)) (first_here t u k e)))

not_before : (u t : List ℕ) (k j : ℕ) → FindsNeedle u t 0 (Some k) → j < k → begins t (drop j u) ≡ true → ⊥
not_before u t k j h l b = h.0.before j (omega arith) l (begins_occurs u t j (omega (arith, l, h.1.fits)) b)

finds_some : (u t : List ℕ) (k : ℕ) → FindsNeedle u t 0 (Some k) → Some k ≡ first_place t u
finds_some u t k h =
    let r = first_least t u k (omega (arith, h.1.fits)) (occurs_begins u t k h.1) in
    elim (cases_lt r.0 k) [
      | inl before ↦ absurd (not_before u t k r.0 h before (first_here t u r.0 r.1))
      | inr from ↦ let e : k ≡ r.0 = omega (arith, from, r.2) in ap Some e ∙ sym r.1
    ]

pub finds_first : (u t : List ℕ) (r : Option ℕ) → FindsNeedle u t 0 r → r ≡ first_place t u
finds_first u t None h = finds_none u t (first_place t u) refl h
finds_first u t (Some k) h = finds_some u t k h

pub some_test : (n : ℕ) → false ≡ (n == 0) → nat_le 1 n ≡ true
some_test n h = grind (arith, nat_tests)
