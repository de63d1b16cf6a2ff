-- What a worker knows of the history that it follows entry by entry.
use Rattle.std.specs.Prelude.{◌≡◌, ◌≢◌, ℕ, ◌<◌, ◌≤◌, Bool, true, false, List, length, take, slice_index_or}
use Rattle.cts_def.specs.Sites.{SiteData}
use Rattle.cts_entry.specs.declared.entry.Entry.{Entry}
use Rattle.cts_entry.specs.Legal.{has_ended}
use Rattle.cts_entry.specs.Workers.{is_worker}
use Rattle.cts_worker.specs.declared.progress.Progress.{Progress}

-- of each maker it is told whether it has ended
pub record EndedTell (ended : List Bool) (history : List Entry) : Type 0 where
  pub long : length ended ≡ 32
  pub tell : (m : ℕ) → m < 32 → slice_index_or ended m false ≡ has_ended m history

-- a maker is no worker of the site, or this one, or has ended
abbrev pub IsDone : SiteData → ℕ → ℕ → List Entry → Type 0
IsDone site but m history = is_worker site m ≡ true → m ≢ but → has_ended m history ≡ true

-- every worker of the site but this one has ended
abbrev pub HaveEnded : SiteData → ℕ → List Entry → Type 0
HaveEnded site but history = (m : ℕ) → IsDone site but m history

-- a number of entries were followed, and these makers have ended in them
pub record Follows (p : Progress) (history : List Entry) : Type 0 where
  pub within : p.place ≤ length history
  pub ended : EndedTell p.ended (take p.place history)
