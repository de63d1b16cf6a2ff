-- Words on a line.
use Rattle.std.specs.Prelude.{ℕ, List, [], ◌∷◌, ◌++◌}

-- words with one space between each two
abbrev pub spaced : List (List ℕ) → List ℕ
spaced [] = []
spaced (word ∷ []) = word
spaced (word ∷ next ∷ rest) = word ++ (32 ∷ spaced (next ∷ rest))
