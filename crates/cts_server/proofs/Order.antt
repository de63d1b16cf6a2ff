-- The numbers of tasks rise.
use Rattle.std.proofs.Common.{ℕ, ◌+◌, ◌≤◌, List, [], ◌∷◌, ◌++◌, length, sym, ap, subst, arith}
use Rattle.std.specs.List.{AllByRecursion}
use Rattle.cts_server.specs.declared.running.Task.{Task}
use Rattle.cts_server.specs.Tasks.{Rising}
use Rattle.cts_server.specs.Making.{AreTasks}

module _ {A X D : Type 0} (Of : ℕ → A → X → D → Type 0) where
  -- tasks from a number on, before others that rise from a later one on
  pub rise_before : (from by next : ℕ) (aims : List A) (xs : List X) (ts more : List (Task D)) → AreTasks Of by aims xs ts → from ≤ by
      → by + length aims ≤ next → next ≤ 31 → Rising next more
      → Rising from (ts ++ more)
  rise_before from by next [] [] [] more are low high few r = risen from next more (omega (arith, low, high)) r
    where
      risen : (from next : ℕ) (ts : List (Task D)) → from ≤ next → Rising next ts → Rising from ts
      risen from next [] le r = tt
      risen from next (t ∷ ts) le r = (omega (arith, le, r.0), r.1, r.2)
  rise_before from by next [] [] (t ∷ ts) more are low high few r = absurd are
  rise_before from by next [] (x ∷ xs) ts more are low high few r = absurd are
  rise_before from by next (a ∷ aims) [] ts more are low high few r = absurd are
  rise_before from by next (a ∷ aims) (x ∷ xs) [] more are low high few r = absurd are
  rise_before from by next (a ∷ aims) (x ∷ xs) (t ∷ ts) more are low high few r = (
    omega (arith, low, are.0),
    omega (arith, are.0, high, few),
    subst (λ (n : ℕ). Rising n (ts ++ more)) (ap (λ (n : ℕ). n + 1) (sym are.0))
        (rise_before (by + 1) (by + 1) next aims xs ts more are.2 (omega arith) (omega (arith, high)) few r),
  )

pub all_append : {X : Type 0} (P : X → Type 0) (xs ys : List X) → AllByRecursion P xs → AllByRecursion P ys → AllByRecursion P (xs ++ ys)
all_append P [] ys a b = b
all_append P (x ∷ xs) ys a b = (a.0, all_append P xs ys a.1 b)
