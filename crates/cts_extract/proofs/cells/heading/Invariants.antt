use Rattle.std.proofs.Common.{◌≡◌, ◌++◌, ◌∷◌, List, ℕ, length}
use Rattle.std.specs.List.{flat_map}
use Rattle.cts_extract.specs.Columns.{heading_text}
use Rattle.cts_extract.proofs.cells.heading.Given as goal

abbrev pub invariant-names : goal.invariant-names
invariant-names l = l.out.items ++ flat_map (λ (name : List ℕ). 9 ∷ name) l.left ≡ heading_text l.names

abbrev pub decreases-names : goal.decreases-names
decreases-names l = length l.left
