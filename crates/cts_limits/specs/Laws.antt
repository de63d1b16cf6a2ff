-- The limits state of samples in other words, over all samples in order.
use Rattle.std.specs.Prelude.{◌≡◌, ◌≢◌, ◌∷◌, [], ◌++◌, ◌-◌, ◌≤◌, ℕ, List, length, drop, IsTrue}
use Rattle.std.specs.List.{list_all}
use Rattle.cts_def.specs.declared.color.Color.{Color}
use Rattle.cts_def.specs.declared.color.Color.TheVariants.{Stale}
use Rattle.cts_limits.specs.States.{Sample, differs_from, state_of}

-- the last n of these samples, and all of them where there are fewer
abbrev pub last_samples : ℕ → List Sample → List Sample
last_samples n s = drop (length s - n) s

-- there are at least n samples, and the last n of them all have another colour
abbrev pub HaveLastOthers : Color → ℕ → List Sample → Type 0
HaveLastOthers c n s = (n ≤ length s) × IsTrue (list_all (differs_from c) (last_samples n s))

-- What samples leave. Without samples the state is Stale. One sample more changes a state that is Stale to its colour. It also
-- does so where, with it, at least as many samples as its persistence were taken, and the last ones, so many of them, all
-- differ from the state. Else the state stays.
pub record StatesAreLeft : Type 0 where
  pub none : state_of [] ≡ Stale
  pub first : (s : List Sample) (x : Sample) → state_of s ≡ Stale → state_of (s ++ x ∷ []) ≡ x.color
  pub changes : (s : List Sample) (x : Sample) → HaveLastOthers (state_of s) x.persistence (s ++ x ∷ []) → state_of (s ++ x ∷ []) ≡ x.color
  pub stays : (s : List Sample) (x : Sample) → state_of s ≢ Stale → (¬ HaveLastOthers (state_of s) x.persistence (s ++ x ∷ []))
      → state_of (s ++ x ∷ []) ≡ state_of s
