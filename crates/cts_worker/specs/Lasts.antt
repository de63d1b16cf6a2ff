-- The last entries of a worker, and which workers may have them.
use Rattle.std.specs.Prelude.{◌≡◌, ℕ, ◌⊎◌, Bool, true, false, ◌&&◌, ◌||◌, ◌==◌, not, List, [], ◌∷◌, ◌++◌}
use Rattle.cts_def.specs.Makers.{scribe}
use Rattle.cts_def.specs.Sites.{SiteData}
use Rattle.cts_def.specs.declared.time.Time.{Time}
use Rattle.cts_entry.specs.declared.entry.Entry.{Entry}
use Rattle.cts_entry.specs.declared.what.What.{What}
use Rattle.cts_entry.specs.declared.what.What.TheVariants.{Stop, Ended}
use Rattle.cts_entry.specs.Histories.{is_connected, is_stopped}
use Rattle.cts_entry.specs.Legal.{has_ended}
use Rattle.cts_entry.specs.Workers.{is_desk, is_worker}

abbrev pub entry_of : ℕ → Time → What → Entry
entry_of by time what = record { by = by; time = time; what = what }

-- a Stop, where one is to stand
abbrev pub stop_if : Bool → ℕ → Time → List Entry
stop_if true by time = entry_of by time Stop ∷ []
stop_if false by time = []

-- the last entries of a worker: a Stop, where it is to stop the server and none stands, and its Ended
abbrev pub last_entries : Bool → ℕ → Time → List Entry → List Entry
last_entries stops by time history = stop_if (stops && not (is_stopped history)) by time ++ entry_of by time Ended ∷ []

-- the time of the entries of a worker that was not started
abbrev pub first_moment : Time
first_moment = record { seconds = 0; micros = 0 }

-- a maker has no connection, and has not ended
abbrev pub IsShut : ℕ → List Entry → Type 0
IsShut by history = (is_connected by history ≡ false) × (has_ended by history ≡ false)

-- a desk and the scribe never have a connection in the history
abbrev pub never_connects : SiteData → ℕ → Bool
never_connects site by = is_desk site by || (by == scribe)

-- A worker may end after what it has seen: it has not ended, and has no connection there or never has one.
pub record MayEnd (site : SiteData) (by : ℕ) (seen : List Entry) : Type 0 where
  pub worker : is_worker site by ≡ true
  pub active : has_ended by seen ≡ false
  pub off : (is_connected by seen ≡ false) ⊎ (never_connects site by ≡ true)
