-- The causes of a refusal in one order, of which the first that holds is told.
use Rattle.std.specs.Prelude.{◌≡◌, Bool, List, Option, find}

-- The first cause of the order for which the test holds, whatever test it is that these calls compute.
abbrev pub TellsTheFirst : {C : Type 0} → (C → Bool → Type 0) → List C → Option C → Type 0
TellsTheFirst {C} computes order told = (holds : C → Bool) → ((c : C) (b : Bool) → computes c b → b ≡ holds c) → told ≡ find holds order
