-- Each worker has exactly one Ended.
use Rattle.std.specs.Prelude.{◌≡◌, ℕ, ◌==◌, ◌&&◌, true, List, length}
use Rattle.std.specs.List.{filter}
use Rattle.cts_def.specs.Sites.{SiteData}
use Rattle.cts_entry.specs.declared.entry.Entry.{Entry}
use Rattle.cts_entry.specs.Legal.{IsLegal, Rules, is_ended}
use Rattle.cts_entry.specs.Workers.{is_worker}
use Rattle.cts_trace.specs.Makers.{LastEnded}

-- how many entries of a maker are an Ended
abbrev pub endings_of : ℕ → List Entry → ℕ
endings_of m history = length (filter (λ e. e.by == m && is_ended e.what) history)

-- the history has exactly one Ended of each interface, slot and desk of the site, and of the scribe
abbrev pub EndsOnce : SiteData → List Entry → Type 0
EndsOnce site history = (m : ℕ) → is_worker site m ≡ true → endings_of m history ≡ 1

-- In a legal history a maker whose last entry is an Ended has no other Ended.
abbrev pub LastEndedIsOnly : Type 0
LastEndedIsOnly = (r : Rules) (m : ℕ) (history : List Entry) → IsLegal r history → LastEnded m history → endings_of m history ≡ 1
