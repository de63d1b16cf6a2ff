-- Statements are refused at the first one at which there is a cause, or at their end.
use Rattle.std.specs.Prelude.{ℕ, ◌≡◌, ◌⊎◌, List, [], ◌∷◌, ◌++◌, Option, Some, None, ◌↔◌}
use Rattle.cts_words.specs.declared.statement.Statement.{Statement}

-- a line and a cause
abbrev pub Refusal : Type 0 → Type 0
Refusal C = ℕ × C

abbrev pub or_else : {R : Type 0} → Option R → Option R → Option R
or_else (Some r) rest = Some r
or_else None rest = rest

-- The first refusal: of a statement after those before it, or at the end of all.
abbrev pub first_refusal : {C : Type 0} → (List Statement → Statement → Option (Refusal C)) → (List Statement → Option (Refusal C)) → List Statement
    → List Statement → Option (Refusal C)
first_refusal at end before [] = end before
first_refusal at end before (s ∷ rest) = or_else (at before s) (first_refusal at end (before ++ s ∷ []) rest)

-- ---- the first refusal, said of all statements at once

-- no statement is refused after those before it
abbrev pub NoneRefused : {C : Type 0} → (List Statement → Statement → Option (Refusal C)) → List Statement → Type 0
NoneRefused at all = (front : List Statement) (s : Statement) (rest : List Statement) → all ≡ front ++ s ∷ rest → at front s ≡ None

-- One of the statements is refused, and none before it.
pub record IsRefusedFirst {C : Type 0} (at : List Statement → Statement → Option (Refusal C)) (all : List Statement) (r : Refusal C) : Type 0 where
  pub front : List Statement
  pub here : Statement
  pub rest : List Statement
  pub parts : all ≡ front ++ here ∷ rest
  pub none : NoneRefused at front
  pub refused : at front here ≡ Some r

-- Where no statement is refused, the end decides.
abbrev pub IsFirstRefusal : {C : Type 0} → (List Statement → Statement → Option (Refusal C)) → (List Statement → Option (Refusal C)) → List Statement
    → Option (Refusal C) → Type 0
IsFirstRefusal at end all None = NoneRefused at all × (end all ≡ None)
IsFirstRefusal at end all (Some r) = IsRefusedFirst at all r ⊎ (NoneRefused at all × (end all ≡ Some r))

abbrev pub FirstOneIsRefused : Type 0 → Type 0
FirstOneIsRefused C = (at : List Statement → Statement → Option (Refusal C)) (end : List Statement → Option (Refusal C)) (all : List Statement)
    (refusal : Option (Refusal C))
    → (first_refusal at end [] all ≡ refusal) ↔ IsFirstRefusal at end all refusal
