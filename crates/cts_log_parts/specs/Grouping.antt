-- How the entries of a log are divided into parts: each part has as many of those that are left as lie within the greatest size, but at
-- least one.
use Rattle.std.specs.Prelude.{◌≡◌, ◌⊎◌, ◌<◌, ◌≤◌, ℕ, ◌+◌, if◌then◌else◌, List, [], ◌∷◌, ◌++◌, Option, Some, None}
use Rattle.std.specs.List.{sum_by}
use Rattle.cts_log.specs.Cycling.{begins_part, size_with}
use Rattle.cts_log.specs.Files.{log_head_len}

-- ys begins with xs
abbrev pub StartsWith : {X : Type 0} → List X → List X → Type 0
StartsWith {X} ys xs = (rest : List X) × (ys ≡ xs ++ rest)

module _ {E : Type 0} (len : E → ℕ) where
  -- how long a part with these entries is
  abbrev pub part_size : List E → ℕ
  part_size es = log_head_len + sum_by len es

  -- A part has these entries where the others are left: at least one, no more than lie within the limit or else one alone, and with the
  -- next of the others it would pass the limit.
  pub record IsFullest (limit : ℕ) (es left : List E) : Type 0 where
    pub first : E
    pub others : List E
    pub some : es ≡ first ∷ others
    pub small : (part_size es ≤ limit) ⊎ (others ≡ [])
    pub full : (e : E) (more : List E) → left ≡ e ∷ more → limit < part_size (es ++ e ∷ [])

  -- The entries are divided so: each part is the fullest of the entries that are left, until none is.
  abbrev pub ArePacked : ℕ → List (List E) → List E → Type 0
  ArePacked limit [] es = es ≡ []
  ArePacked limit (g ∷ gs) es = (left : List E) × (es ≡ g ++ left) × IsFullest limit g left × ArePacked limit gs left

  -- Without a limit, or where there are no entries, all stand in one part.
  abbrev pub AreGroups : Option ℕ → List E → List (List E) → Type 0
  AreGroups None es gs = gs ≡ es ∷ []
  AreGroups (Some limit) [] gs = gs ≡ [] ∷ []
  AreGroups (Some limit) (e ∷ es) gs = ArePacked limit gs (e ∷ es)

-- ---- entry by entry

-- these, before the first list
abbrev pub before : {X : Type 0} → List X → List (List X) → List (List X)
before xs [] = xs ∷ []
before xs (ys ∷ yss) = (xs ++ ys) ∷ yss

-- the lists, where the last of the first ones goes on with the first of the others
abbrev pub joined : {X : Type 0} → List (List X) → List (List X) → List (List X)
joined [] yss = yss
joined (xs ∷ []) yss = before xs yss
joined (xs ∷ zs ∷ xss) yss = xs ∷ joined (zs ∷ xss) yss

module _ {E : Type 0} (len : E → ℕ) (cycle : Option ℕ) where
  -- after a part of this size: what comes to that part, and the new parts
  abbrev pub grouped : ℕ → List E → List (List E)
  grouped size [] = [] ∷ []
  grouped size (e ∷ es) =
      if begins_part cycle size (len e) then [] ∷ before (e ∷ []) (grouped (log_head_len + len e) es) else before (e ∷ []) (grouped (size + len e) es)

  -- how long the last part is then
  abbrev pub size_after : ℕ → List E → ℕ
  size_after size [] = size
  size_after size (e ∷ es) = size_after (size_with cycle size (len e)) es

-- ---- beginnings

-- Some parts are a beginning of others: there are none; or all but the last are the others in order, and the last begins the other at its
-- place.
abbrev pub BeginsParts : {X : Type 0} → List (List X) → List (List X) → Type 0
BeginsParts whole [] = Unit {0}
BeginsParts [] (p ∷ ps) = ⊥
BeginsParts (w ∷ ws) (p ∷ []) = StartsWith w p
BeginsParts (w ∷ ws) (p ∷ q ∷ ps) = (p ≡ w) × BeginsParts ws (q ∷ ps)

-- the last one
abbrev pub last_of : {X : Type 0} → List (List X) → List X
last_of [] = []
last_of (p ∷ []) = p
last_of (p ∷ q ∷ ps) = last_of (q ∷ ps)
