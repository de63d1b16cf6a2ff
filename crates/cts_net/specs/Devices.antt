-- The devices of a server, before they are used.
use Rattle.std.specs.Prelude.{◌≡◌, ℕ, false, List, length, Option, Some, None}
use Rattle.std.specs.List.{AllByRecursion}
use Rattle.cts_outside.specs.Seen.{LineSeen}

-- what a dialer shows that was not aimed yet, and of which no connection stands
abbrev pub unused : LineSeen
unused = record { told = None; linked = false; finished = false; faults = 0; failed_dials = 0 }

-- a door stands in the place, and accepts its clients at this address of the machine
abbrev pub AcceptsAt : {X : Type 0} → (X → List ℕ) → List ℕ → Option X → Type 0
AcceptsAt host address (Some x) = host x ≡ address
AcceptsAt host address None = ⊥

module _ {X : Type 0} (seen : X → LineSeen) where
  -- a dialer stands in the place, and was not used yet
  abbrev pub IsUnused : Option X → Type 0
  IsUnused (Some x) = seen x ≡ unused
  IsUnused None = ⊥

  -- so many places, and such a dialer in each of them
  abbrev pub AreUnused : ℕ → List (Option X) → Type 0
  AreUnused n places = (length places ≡ n) × AllByRecursion IsUnused places
