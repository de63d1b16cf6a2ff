-- The places of devices: what stands in them when a server starts, and what stands there when it has ended.
use Rattle.std.specs.Prelude.{◌≡◌, ◌⊎◌, ℕ, ◌+◌, List, [], ◌∷◌, ◌++◌, drop, length, map, Option, Some, None}
use Rattle.std.specs.List.{AllByRecursion}
use Rattle.cts_def.specs.Most.{most_desks, most_slots}
use Rattle.cts_outside.specs.Seen.{LineSeen}
use Rattle.cts_outside.specs.declared.link.Aim.{Aim}
use Rattle.cts_server.specs.Aims.{aimed_at}

-- the doors of a server: those of the slots first, then those of the desks
abbrev pub most_doors : ℕ
most_doors = most_slots + most_desks

module _ {X : Type 0} where
  -- a device stands in the place
  abbrev pub IsThere : Option X → Type 0
  IsThere (Some x) = Unit {0}
  IsThere None = ⊥

  -- a number of places, and a device in each of them
  abbrev pub AreThere : ℕ → List (Option X) → Type 0
  AreThere n places = (length places ≡ n) × AllByRecursion IsThere places

  -- the first places with these devices in them, and the places after them as they were
  abbrev pub filled : List X → List (Option X) → List (Option X)
  filled xs places = map Some xs ++ drop (length xs) places

  -- From a worker's number on: for each aim the device that stood in the place was aimed so, and a device stands there again, of which this
  -- holds with the note of the worker. The places after them, which no worker needs, are as they were.
  abbrev pub CameBack : {N : Type 0} → (ℕ → Aim → X → X → N → Type 0) → ℕ → List Aim → List (Option X) → List (Option X) → List N → Type 0
  CameBack Owes by [] old new [] = new ≡ old
  CameBack Owes by [] old new (note ∷ notes) = ⊥
  CameBack Owes by (aim ∷ aims) (Some x ∷ old) (Some y ∷ new) (note ∷ notes) = Owes by aim x y note × CameBack Owes (by + 1) aims old new notes
  CameBack Owes by (aim ∷ aims) (Some x ∷ old) (Some y ∷ new) [] = ⊥
  CameBack Owes by (aim ∷ aims) (Some x ∷ old) (None ∷ new) notes = ⊥
  CameBack Owes by (aim ∷ aims) (Some x ∷ old) [] notes = ⊥
  CameBack Owes by (aim ∷ aims) (None ∷ old) new notes = ⊥
  CameBack Owes by (aim ∷ aims) [] new notes = ⊥

  -- The first devices were aimed so and show nothing else than before, and the places after them are as they were.
  abbrev pub AreAimed : (X → LineSeen) → List Aim → List (Option X) → List (Option X) → Type 0
  AreAimed seen [] old new = new ≡ old
  AreAimed seen (aim ∷ aims) (Some x ∷ old) (Some y ∷ new) = (seen y ≡ aimed_at aim (seen x)) × AreAimed seen aims old new
  AreAimed seen (aim ∷ aims) (Some x ∷ old) (None ∷ new) = ⊥
  AreAimed seen (aim ∷ aims) (Some x ∷ old) [] = ⊥
  AreAimed seen (aim ∷ aims) (None ∷ old) new = ⊥
  AreAimed seen (aim ∷ aims) [] new = ⊥

  -- nothing was done with the places, or their devices were aimed and stand in them again
  abbrev pub AimedAtMost : (X → LineSeen) → List Aim → List (Option X) → List (Option X) → Type 0
  AimedAtMost seen aims old new = (new ≡ old) ⊎ AreAimed seen aims old new
