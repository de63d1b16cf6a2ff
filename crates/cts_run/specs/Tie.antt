-- What a hub ties, in the words of the command line.
use Rattle.std.specs.Prelude.{ℕ, List}

-- A slot of the site above, an interface of the site below, and how many bytes a piece has.
pub record TieData : Type 0 where
  pub who : List ℕ
  pub name : List ℕ
  pub cut : List ℕ
