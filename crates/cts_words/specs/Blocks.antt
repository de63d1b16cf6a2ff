-- Lines in blocks, each of which begins at a head: what `head_in` finds in a line, if it finds one.
use Rattle.std.specs.Prelude.{◌≡◌, List, [], ◌∷◌, ◌++◌, map, Option, Some, None}
use Rattle.std.specs.List.{filter_map, AllByRecursion}

-- One more line before those that are cut.
abbrev pub begin_block : {L H : Type 0} → Option H → L → List L × List (H × List L) → List L × List (H × List L)
begin_block (Some head) l rest = ([], (head, rest.0) ∷ rest.1)
begin_block None l rest = (l ∷ rest.0, rest.1)

-- The lines before the first head, and the blocks: each has its head, and the lines up to the next one.
abbrev pub cut_at_heads : {L H : Type 0} → (L → Option H) → List L → List L × List (H × List L)
cut_at_heads head_in [] = ([], [])
cut_at_heads head_in (l ∷ ls) = begin_block (head_in l) l (cut_at_heads head_in ls)

abbrev pub blocks : {L H : Type 0} → (L → Option H) → List L → List (H × List L)
blocks head_in ls = (cut_at_heads head_in ls).1

-- ---- the last one of a list

abbrev pub last_of : {X : Type 0} → List X → Option X
last_of [] = None
last_of (x ∷ []) = Some x
last_of (x ∷ y ∷ xs) = last_of (y ∷ xs)

-- the list with its last one changed
abbrev pub on_last : {X : Type 0} → (X → X) → List X → List X
on_last f [] = []
on_last f (x ∷ []) = f x ∷ []
on_last f (x ∷ y ∷ xs) = x ∷ on_last f (y ∷ xs)

-- the block with one more line at its end
abbrev pub with_line : {L H : Type 0} → L → H × List L → H × List L
with_line l block = (block.0, block.1 ++ l ∷ [])

-- ---- blocks, said of all lines at once

abbrev pub HasNoHead : {L H : Type 0} → (L → Option H) → List L → Type 0
HasNoHead head_in ls = AllByRecursion (λ l. head_in l ≡ None) ls

-- There is a block for each head, in their order.
abbrev pub BlocksAreOfTheHeads : Type 0 → Type 0 → Type 0
BlocksAreOfTheHeads L H = (head_in : L → Option H) (ls : List L) → map (λ block. block.0) (blocks head_in ls) ≡ filter_map head_in ls

-- A block has the lines after its head.
abbrev pub BlocksHaveTheirLines : Type 0 → Type 0 → Type 0
BlocksHaveTheirLines L H = (head_in : L → Option H) (before : List L) (l : L) (head : H) (body : List L)
    → head_in l ≡ Some head → HasNoHead head_in body → blocks head_in (before ++ l ∷ body) ≡ blocks head_in before ++ (head, body) ∷ []
