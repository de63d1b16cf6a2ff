-- What holds of causes and of statements, said of the whole.
use Rattle.std.specs.Prelude.{◌≡◌, ◌↔◌, Bool, true, false, List, ◌∷◌, ◌++◌, Option, Some, None, Ok, Err, find}
use Rattle.std.specs.List.{AllByRecursion}
use Rattle.cts_words.specs.declared.statement.Statement.{Statement}
use Rattle.cts_words.specs.Refusals.{Refusal, NoneRefused, IsFirstRefusal}
use Rattle.cts_reader.specs.Reading.{said_of}

-- This one holds, and none of those before it.
pub record HoldsFirst {C : Type 0} (holds : C → Bool) (order : List C) (c : C) : Type 0 where
  pub before : List C
  pub after : List C
  pub parts : order ≡ before ++ c ∷ after
  pub none : AllByRecursion (λ b. holds b ≡ false) before
  pub here : holds c ≡ true

abbrev pub TheFirstCauseIsTold : Type 0 → Type 0
TheFirstCauseIsTold C = (holds : C → Bool) (order : List C) (c : C) → (find holds order ≡ Some c) ↔ HoldsFirst holds order c

abbrev pub NoneIsToldWhereNoneHolds : Type 0 → Type 0
NoneIsToldWhereNoneHolds C = (holds : C → Bool) (order : List C) → (find holds order ≡ None) ↔ AllByRecursion (λ b. holds b ≡ false) order

-- Statements are refused exactly where one of them is refused after those before it, and by the first such one, or where
-- none of them is and their end is.
abbrev pub RefusesTheFirst : Type 0 → Type 0 → Type 0
RefusesTheFirst C X = (at : List Statement → Statement → Option (Refusal C)) (end : List Statement → Option (Refusal C)) (says : List Statement → X)
    (all : List Statement) (r : Refusal C)
    → (said_of at end says all ≡ Err r) ↔ IsFirstRefusal at end all (Some r)

-- Where neither a statement nor the end is refused, they say what all of them say.
abbrev pub TakesTheOthers : Type 0 → Type 0 → Type 0
TakesTheOthers C X = (at : List Statement → Statement → Option (Refusal C)) (end : List Statement → Option (Refusal C)) (says : List Statement → X)
    (all : List Statement)
    → NoneRefused at all → end all ≡ None → said_of at end says all ≡ Ok (says all)
