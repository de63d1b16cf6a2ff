-- What one look at the history that a scribe follows gives.
use Rattle.std.specs.Prelude.{◌≡◌, ℕ, ◌<◌, ◌≤◌, true, false, List, [], ◌++◌, length, take, Option, Some, None, Result, Ok, Err}
use Rattle.cts_base.specs.declared.memory.Memory.{Memory}
use Rattle.cts_def.specs.Sites.{SiteData}
use Rattle.cts_entry.specs.declared.entry.Entry.{Entry}
use Rattle.cts_outside.specs.Vaults.{Logs}
use Rattle.cts_trace.specs.Makers.{of_maker}
use Rattle.cts_turn.specs.Lists.{has}
use Rattle.cts_turn.specs.declared.rule.View.{View}
use Rattle.cts_worker.specs.declared.progress.Progress.{Progress}
use Rattle.cts_worker.specs.Followed.{Follows, HaveEnded}
use Rattle.cts_worker.specs.Lasts.{first_moment, last_entries}
use Rattle.cts_scribe.specs.declared.cycles.Cycles.{Cycles}
use Rattle.cts_scribe.specs.declared.ending.ScribeWhy.{ScribeWhy}
use Rattle.cts_scribe.specs.declared.ending.ScribeWhy.TheVariants.{Drained as IsDrainedWhy, VaultFailed, NoMemory, Cancelled}
use Rattle.cts_scribe.specs.declared.growth.Growth.{Growth}
use Rattle.cts_scribe.specs.declared.sight.Sight.{Sight}
use Rattle.cts_scribe.specs.declared.sight.Sight.TheVariants.{More, Still, Drained}
use Rattle.cts_scribe.specs.Ending.{stops_all}
use Rattle.cts_scribe.specs.Growing.{AreBounded, Count, GivesBoth}
use Rattle.cts_scribe.specs.Vaults.{AreSynced}

-- The next entries were followed, at least one and not too many, and this is what they give to the logs: the parts of each log of all that were
-- followed are what they were of those before, grown by this.
pub record Lays (site : SiteData) (history : List Entry) (p q : Progress) (growth : Growth) : Type 0 where
  pub further : p.place < q.place
  pub follows : Follows q history
  pub gives : GivesBoth site history p.place q.place growth
  pub bounded : AreBounded site history p.place q.place growth.batch

-- All entries were followed up to this place, and every other worker has ended.
pub record IsDrained (site : SiteData) (by place : ℕ) (history : List Entry) : Type 0 where
  pub last : place ≡ length history
  pub others : HaveEnded site by history

-- What a look gives of the entries of a hall, and what they are after it, and how far the cycles have counted then. The scribe's Ended came to
-- the entries exactly where they are drained.
abbrev pub Sees : SiteData → ℕ → List Entry → Progress → Result Sight Memory → List Entry → Progress → Cycles → Type 0
Sees site by old p (Ok (More growth)) new q c = (new ≡ old) × Lays site old p q growth × Count site (take q.place old) c
Sees site by old p (Ok Still) new q c = (new ≡ old) × (q ≡ p) × (IsDrained site by p.place old → ⊥) × Count site (take q.place old) c
Sees site by old p (Ok Drained) new q c = (new ≡ old ++ last_entries false by first_moment old) × (q ≡ p) × IsDrained site by p.place old
Sees site by old p (Err m) new q c = (new ≡ old) × (q ≡ p)

-- A scribe between two looks: it has followed some of what its pass has seen, in which no entry is its own.
pub record Following {G : Type 0} (by : ℕ) (v : View Entry G) (p : Progress) : Type 0 where
  pub makers : has by v.makers ≡ true
  pub silent : of_maker by v.seen ≡ []
  pub follows : Follows p v.seen

-- between two looks the cycles have counted what was followed, and the logs are synced; of an end nothing is said
abbrev pub CountIf : SiteData → List Entry → Cycles → Option ScribeWhy → Type 0
CountIf site followed c None = Count site followed c
CountIf site followed c (Some why) = Unit {0}

abbrev pub SyncedIf : Option Logs → Option ScribeWhy → Type 0
SyncedIf told None = AreSynced told
SyncedIf told (Some why) = Unit {0}

-- at this end the history is drained
abbrev pub DrainsAt : SiteData → ℕ → ScribeWhy → ℕ → List Entry → Type 0
DrainsAt site by IsDrainedWhy place history = IsDrained site by place history
DrainsAt site by VaultFailed place history = Unit {0}
DrainsAt site by NoMemory place history = Unit {0}
DrainsAt site by Cancelled place history = Unit {0}

-- What a scribe has seen at its end: what stood, of which it had followed the entries up to its cursor, and its last entries. These are all of its
-- own. Where it is drained, its cursor was at the end of what stood, and every other worker had ended there.
pub record Ends (site : SiteData) (by : ℕ) (why : ScribeWhy) (seen : List Entry) (cursor : ℕ) : Type 0 where
  pub stood : List Entry
  pub seen_is : seen ≡ stood ++ last_entries (stops_all why) by first_moment stood
  pub silent : of_maker by stood ≡ []
  pub within : cursor ≤ length stood
  pub drained : DrainsAt site by why cursor stood

-- between two looks, or at the end
abbrev pub GoesOrEnds : {G : Type 0} → SiteData → ℕ → Option ScribeWhy → View Entry G → Progress → Type 0
GoesOrEnds site by None v p = Following by v p
GoesOrEnds site by (Some why) v p = Ends site by why v.seen p.place
