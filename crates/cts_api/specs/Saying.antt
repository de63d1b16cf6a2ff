-- What is said to what is asked.
use Rattle.std.specs.Prelude.{ℕ, ℤ, List}

-- An answer, or the code and the message of a refusal.
pub data Said (A : Type 0) : Type 0 where
  refused : ℤ → List ℕ → Said A
  gives : A → Said A
