-- Lists of passes, and the makers from k on.
use Rattle.std.proofs.Common.{◌≡◌, ℕ, ◌+◌, ◌<◌, ◌||◌, append_assoc, true, false, List, [], ◌∷◌, ◌++◌, length, All, sym, refl, ap, ◌∙◌, subst, ⊎_elim, suc, zero, arith, eq-eqb, slice_index_or}
use Rattle.std.proofs.lemmas.List.Elements.{All-append, All-cons, All-nil}
use Rattle.cts_turn.specs.Lists.{has, makers_from, StartsWith}
use Rattle.cts_turn.proofs.Makers.{has_from}
use Rattle.std.proofs.lemmas.Bool.Decides.{leb_tells}
use Rattle.cts_turn.specs.Passes.{HasAll}

module _ {X : Type 0} where
  pub all_map : (P Q : X → Type 0) (xs : List X) → All P xs → ((x : X) → P x → Q x) → All Q xs
  all_map P Q xs all f = λ k d lt. f (slice_index_or xs k d) (all k d lt)

  pub all_both : (P Q R : X → Type 0) (xs : List X) → All P xs → All Q xs → ((x : X) → P x → Q x → R x) → All R xs
  all_both P Q R xs p q f = λ k d lt. f (slice_index_or xs k d) (p k d lt) (q k d lt)

  pub all_snoc : (P : X → Type 0) (xs : List X) (x : X) → All P xs → P x → All P (xs ++ x ∷ [])
  all_snoc P xs x all one = All-append P xs (x ∷ []) all (All-cons P x [] one (All-nil P))

pub begins_on : {E : Type 0} (a b c : List E) → StartsWith b a → StartsWith c b → StartsWith c a
begins_on a b c p q = (p.0 ++ q.0, q.1 ∙ ap (λ l. l ++ q.0) p.1 ∙ append_assoc a p.0 q.0)

pub snoc_each : {X : Type 0} (P : ℕ → X → Type 0) (xs : List X) (x : X) → ((k : ℕ) (d : X) → k < length xs → P k (slice_index_or xs k d)) → P (length xs) x
    → (k : ℕ) (d : X) → k < length xs + 1 → P k (slice_index_or (xs ++ x ∷ []) k d)
snoc_each P [] x each one zero d lt = one
snoc_each P [] x each one (suc k) d lt = absurd (omega arith)
snoc_each P (y ∷ ys) x each one zero d lt = each 0 d (omega arith)
snoc_each P (y ∷ ys) x each one (suc k) d lt = snoc_each (λ n. P (suc n)) ys x (λ j e l. each (suc j) e (omega arith)) one k d (omega arith)

pub all_back : {X : Type 0} (makers_of : X → List ℕ) (xs : List X) (ms new : List ℕ) (d : X)
    → ms ≡ makers_from (length xs) → ((k : ℕ) (d : X) → k < length xs → makers_of (slice_index_or xs k d) ≡ k ∷ [])
    → ((m : ℕ) → has m ms ≡ true → has m new ≡ true) → All (λ p. (m : ℕ) → has m (makers_of p) ≡ true → has m new ≡ true) xs
    → HasAll new
all_back makers_of xs ms new d left theirs mine back m lt = let n : ℕ = length xs in ⊎_elim
    (λ t. mine m (subst (λ l. has m l ≡ true) (sym left) (has_from n m t.1 lt)))
    (λ t. back m d t.1 m (subst (λ l. has m l ≡ true) (sym (theirs m d t.1)) (ap (λ b. b || false) (eq-eqb m m refl))))
    (leb_tells n m)
