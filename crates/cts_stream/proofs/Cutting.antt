-- The first bytes of a list, and what stands leftmost in them.
use Rattle.std.proofs.Common.{◌≡◌, ℕ, zero, suc, ◌+◌, ◌-◌, ◌≤◌, ◌<◌, Bool, true, false, cond, List, [], ◌∷◌, ◌++◌, length, take, drop, refl, sym, ◌∙◌, ap, append_assoc, arith, Option, Some, None, min, inl, inr}
use Rattle.std.specs.Prelude.{option_map}
use Rattle.std.proofs.lemmas.List.{drop-drop, take-append-drop, take_at, take_all, length-drop}
use Rattle.std.proofs.lemmas.Bool.{cases_lt}
use Rattle.std.proofs.Math.Seq.{take-append-add}
use Rattle.cts_framing.specs.Patterns.{begins, first_place}
use Rattle.cts_framing.specs.SyncPatterns.{IsLeftmost}
use Rattle.cts_proto.proofs.Finding.{nil_of}
use Rattle.cts_framing.proofs.Leftmost.{first_tells, first_test}

pub take_fewer : (i j : ℕ) (v : List ℕ) → i ≤ j → take i (take j v) ≡ take i v
take_fewer zero j v h = refl
take_fewer (suc i) zero v h = absurd (omega (arith, h))
take_fewer (suc i) (suc j) [] h = refl
take_fewer (suc i) (suc j) (x ∷ v) h = ap (λ l. x ∷ l) (take_fewer i j v (omega (arith, h)))

pub take_min : (m n : ℕ) (u : List ℕ) → m ≡ min (length u) n → take m u ≡ take n u
take_min m n u e = elim (cases_lt (length u) n) [
  | inl h ↦ take_all m u (omega (arith, e, h)) ∙ sym (take_all n u (omega (arith, h)))
  | inr h ↦ let same : m ≡ n = omega (arith, e, h) in ap (λ k. take k u) same
]

pub drop_min : (k n : ℕ) (u : List ℕ) → k ≡ min n (length u) → drop k u ≡ drop n u
drop_min k n u e = elim (cases_lt n (length u)) [
  | inl h ↦ let same : k ≡ n = omega (arith, e, h) in ap (λ j. drop j u) same
  | inr h ↦ nil_of (drop k u) (omega (arith, e, h, length-drop k u)) ∙ sym (nil_of (drop n u) (omega (arith, h, length-drop n u)))
]

-- what stands leftmost, where it stands at none of the first d places
pub later : (t w : List ℕ) (d : ℕ) → ((k : ℕ) → k < d → first_place t w ≡ Some k → ⊥) → first_place t w ≡ option_map (λ k. d + k) (first_place t (drop d w))
later t w zero none = same (first_place t w)
  where
    same : (o : Option ℕ) → o ≡ option_map (λ k. 0 + k) o
    same None = refl
    same (Some k) = ap Some (omega arith)
later t [] (suc d) none = nowhere (begins t []) none
  where
    nowhere : (b : Bool) → ((k : ℕ) → k < suc d → cond b (Some 0) None ≡ Some k → ⊥) → cond b (Some 0) None ≡ option_map (λ k. suc d + k) (cond b (Some 0) None)
    nowhere true h = absurd (h 0 (omega arith) refl)
    nowhere false h = refl
later t (x ∷ w) (suc d) none = after (begins t (x ∷ w)) none (later t w d)
  where
    moved : (o : Option ℕ) → option_map suc (option_map (λ k. d + k) o) ≡ option_map (λ k. suc d + k) o
    moved None = refl
    moved (Some k) = ap Some (omega arith)

    after : (b : Bool) → ((k : ℕ) → k < suc d → cond b (Some 0) (option_map suc (first_place t w)) ≡ Some k → ⊥)
        → (((k : ℕ) → k < d → first_place t w ≡ Some k → ⊥) → first_place t w ≡ option_map (λ k. d + k) (first_place t (drop d w)))
        → cond b (Some 0) (option_map suc (first_place t w)) ≡ option_map (λ k. suc d + k) (first_place t (drop d w))
    after true h more = absurd (h 0 (omega arith) refl)
    after false h more = ap (option_map suc) (more (λ k lt e. h (suc k) (omega (arith, lt)) (ap (option_map suc) e))) ∙ moved (first_place t (drop d w))

-- what stands leftmost after a place, found from a later place on
pub found_later : (t u v : List ℕ) (start from : ℕ) (o : Option ℕ) → start ≤ from → ((k : ℕ) → k < from - start → first_place t (drop start u) ≡ Some k → ⊥) → v ≡ drop from u → o ≡ first_place t v
    → option_map (λ k. from - start + k) o ≡ first_place t (drop start u)
found_later t u v start from o h none is found =
    let at : start + (from - start) ≡ from = omega (arith, h) in
    let same : drop (from - start) (drop start u) ≡ v = drop-drop (from - start) start u ∙ (ap (λ (n : ℕ). drop n u) at ∙ sym is) in
    ap (option_map (λ k. from - start + k)) (found ∙ ap (first_place t) (sym same)) ∙ sym (later t (drop start u) (from - start) none)
