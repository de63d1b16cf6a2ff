-- What the scribe needs, and what it owes.
use Rattle.std.specs.Prelude.{◌≡◌, ℕ, ◌≤◌, ◌⊎◌, Bool, true, false, List, [], ◌++◌, length, take}
use Rattle.cts_def.specs.Makers.{scribe}
use Rattle.cts_def.specs.Sites.{SiteData}
use Rattle.cts_entry.specs.declared.entry.Entry.{Entry}
use Rattle.cts_entry.specs.Histories.{is_stopped}
use Rattle.cts_outside.specs.Seen.{VaultSeen}
use Rattle.cts_scribe.specs.Ending.{CausesEnd, LogsEnd, stops_all}
use Rattle.cts_scribe.specs.Following.{DrainsAt}
use Rattle.cts_scribe.specs.Vaults.{AreBlank}
use Rattle.cts_scribe.specs.declared.ending.ScribeWhy.{ScribeWhy}
use Rattle.cts_scribe.specs.declared.ending.ScribeWhy.TheVariants.{Drained, VaultFailed, NoMemory, Cancelled}
use Rattle.cts_table.specs.declared.basis.Basis.{Basis}
use Rattle.cts_trace.specs.Makers.{LastEnded, of_maker}
use Rattle.cts_turn.specs.Lists.{StartsWith}
use Rattle.cts_worker.specs.Lasts.{first_moment, last_entries}
use Rattle.cts_server.specs.Workers.{IsUnstarted}

-- The site is that of the turn, the worker is the scribe, and nothing was appended to its vault.
pub record MayRunScribe (basis : Basis) (by : ℕ) (site : SiteData) (vault : VaultSeen) : Type 0 where
  pub same : site ≡ basis.site
  pub scribe : by ≡ scribe
  pub blank : AreBlank vault.told

abbrev pub is_cancelled : ScribeWhy → Bool
is_cancelled Drained = false
is_cancelled VaultFailed = false
is_cancelled NoMemory = false
is_cancelled Cancelled = true

-- What stood at the scribe's last look, with no entry of its own, of which it had followed the entries up to its cursor; then its last
-- entries, which are all of its own. Where it is drained, its cursor was at the end of what stood, and every other worker had ended there.
pub record EndedScribe (site : SiteData) (by : ℕ) (why : ScribeWhy) (history : List Entry) (cursor : ℕ) : Type 0 where
  pub stood : List Entry
  pub begins : StartsWith history (stood ++ last_entries (stops_all why) by first_moment stood)
  pub silent : of_maker by stood ≡ []
  pub own : of_maker by history ≡ last_entries (stops_all why) by first_moment stood
  pub within : cursor ≤ length stood
  pub drained : DrainsAt site by why cursor stood

-- What a scribe that ran leaves, by what its vault showed before and shows now. The logs in the vault are those of the entries that it had
-- followed, as far as why it ended says; its last entry is its Ended; and why it ended has its cause.
pub record RanScribe (site : SiteData) (digest : List ℕ) (by : ℕ) (history : List Entry) (old new : VaultSeen) (cursor : ℕ) (why : ScribeWhy) : Type 0 where
  pub logs : LogsEnd site digest (take cursor history) why new.told
  pub ends : EndedScribe site by why history cursor
  pub ended : LastEnded by history
  pub cause : CausesEnd old.faults new.faults why
  pub stops : stops_all why ≡ true → is_stopped history ≡ true

-- A scribe that was not started: its vault is as it was.
pub record UnstartedScribe (by : ℕ) (history : List Entry) (old new : VaultSeen) (cursor : ℕ) (why : ScribeWhy) : Type 0 where
  pub unstarted : IsUnstarted by history
  pub same : new ≡ old
  pub none : cursor ≡ 0
  pub cancelled : why ≡ Cancelled

-- What the scribe owes at its end.
abbrev pub OwesScribe : SiteData → List ℕ → ℕ → List Entry → VaultSeen → VaultSeen → ℕ → ScribeWhy → Type 0
OwesScribe site digest by history old new cursor why = RanScribe site digest by history old new cursor why ⊎ UnstartedScribe by history old new cursor why
