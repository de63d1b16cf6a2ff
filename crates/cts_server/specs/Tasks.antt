-- Tasks with the numbers of their workers, and what holds of what these left.
use Rattle.std.specs.Prelude.{◌≡◌, ℕ, ◌+◌, ◌<◌, ◌≤◌, true, false, ◌==◌, Bool, List, [], ◌∷◌}
use Rattle.cts_def.specs.Makers.{server}
use Rattle.cts_entry.specs.declared.entry.Entry.{Entry}
use Rattle.cts_server.specs.declared.running.Task.{Task}
use Rattle.cts_trace.specs.Makers.{of_maker}
use Rattle.cts_turn.specs.Lists.{has}

-- the numbers rise, from one on, and all are below that of the server itself
abbrev pub Rising : {D : Type 0} → ℕ → List (Task D) → Type 0
Rising from [] = Unit {0}
Rising from (t ∷ ts) = (from ≤ t.by) × (t.by < server) × Rising (t.by + 1) ts

-- the first task is the one of this worker
abbrev pub is_next : {D : Type 0} → ℕ → List (Task D) → Bool
is_next by [] = false
is_next by (t ∷ ts) = t.by == by

-- What a worker owes holds of a history and of what it left, with the places at which its holds began.
abbrev pub Did : {D N B : Type 0} → (D → ℕ → B → List ℕ → List Entry → N → Type 0) → B → List Entry → Task D → N → Type 0
Did does basis history t note = (found : List ℕ) × does t.work t.by basis found history note

-- The same, and its number is one of these makers.
pub record Holds {D N B : Type 0} (does : D → ℕ → B → List ℕ → List Entry → N → Type 0) (basis : B) (makers : List ℕ) (history : List Entry)
    (t : Task D) (note : N) : Type 0 where
  pub found : List ℕ
  pub did : does t.work t.by basis found history note
  pub maker : has t.by makers ≡ true

-- What a worker left: a pass of its own number alone, whose holds began at these places and which saw this, and what else it left.
pub record Leaves {D N B : Type 0} (does : D → ℕ → B → List ℕ → List Entry → N → Type 0) (basis : B) (t : Task D) (makers found : List ℕ)
    (seen : List Entry) (note : N) : Type 0 where
  pub makers_are : makers ≡ t.by ∷ []
  pub did : does t.work t.by basis found seen note

-- A maker that is none of these has no entry.
abbrev pub AreSilent : List ℕ → List Entry → Type 0
AreSilent numbers history = (m : ℕ) → m < 32 → has m numbers ≡ false → of_maker m history ≡ []
