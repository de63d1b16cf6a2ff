-- What holds of the turn leave in the view of a pass.
use Rattle.std.specs.Prelude.{◌≡◌, ℕ, Bool, List, [], ◌∷◌, ◌++◌, length}
use Rattle.cts_def.specs.declared.time.Time.{Time}
use Rattle.cts_entry.specs.declared.entry.Entry.{Entry}
use Rattle.cts_table.specs.States.{Shown}
use Rattle.cts_table.specs.declared.basis.Basis.{Basis}
use Rattle.cts_trace.specs.Makers.{of_maker}
use Rattle.cts_turn.specs.Lists.{AllBy, StartsWith}
use Rattle.cts_turn.specs.declared.rule.View.{View}
use Rattle.cts_worker.specs.Lasts.{last_entries}

-- One hold: others had appended entries, none of them m's, when it began, and then these were added.
pub record Hold {G : Type 0} (m : ℕ) (old new : View Entry G) (added : List Entry) : Type 0 where
  pub others : List Entry
  pub strange : of_maker m others ≡ []
  pub seen : new.seen ≡ old.seen ++ (others ++ added)
  pub found : new.found ≡ old.found ++ length (old.seen ++ others) ∷ []
  pub makers : new.makers ≡ old.makers

-- The same of the halls: the hold began with this one, and this one stood when it was left.
pub record Held {G : Type 0} (m : ℕ) (old new : View Entry G) (s t : Shown) : Type 0 where
  pub others : List Entry
  pub strange : of_maker m others ≡ []
  pub began : s.entries ≡ old.seen ++ others
  pub seen : new.seen ≡ t.entries
  pub found : new.found ≡ old.found ++ length s.entries ∷ []
  pub makers : new.makers ≡ old.makers

-- In a hold over this basis this was done to the hall.
abbrev pub InHold : {G : Type 0} → Basis → ℕ → View Entry G → View Entry G → (Shown → Shown → Type 0) → Type 0
InHold base m old new Did = (s : Shown) × (t : Shown) × (s.basis ≡ base) × Held m old new s t × Did s t

-- The hall has the same site and limits, and some entries of a maker more.
abbrev pub Adds : ℕ → Shown → Shown → Type 0
Adds by s t = (t.basis ≡ s.basis) × ((new : List Entry) × (t.entries ≡ s.entries ++ new) × AllBy (λ (e : Entry). e.by) (by ∷ []) new)

-- Any number of holds of a pass: its makers are the same, what it had seen is a beginning of what it has seen, and so of the places at which its
-- holds began.
pub record Onward {G : Type 0} (old new : View Entry G) : Type 0 where
  pub makers : new.makers ≡ old.makers
  pub seen : StartsWith new.seen old.seen
  pub found : StartsWith new.found old.found

-- the last entries of a worker were added in a hold
pub record EndedHold {G : Type 0} (by : ℕ) (time : Time) (stops : Bool) (old new : View Entry G) : Type 0 where
  pub added : List Entry
  pub hold : Hold by old new added
  pub words : added ≡ last_entries stops by time (old.seen ++ hold.others)
