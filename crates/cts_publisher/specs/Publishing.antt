-- What a look of the publisher leaves, and how it ends.
use Rattle.std.specs.Prelude.{◌≡◌, ℕ, true, List}
use Rattle.cts_def.specs.Sites.{SiteData}
use Rattle.cts_entry.specs.declared.entry.Entry.{Entry}
use Rattle.cts_entry.specs.Legal.{has_ended}
use Rattle.cts_entry.specs.Workers.{is_worker}
use Rattle.cts_snap.specs.Copies.{Writes}
use Rattle.cts_publisher.specs.declared.sight.Sight.{Sight}
use Rattle.cts_publisher.specs.declared.sight.Sight.TheVariants.{More, Still, Over}
use Rattle.cts_publisher.specs.declared.ending.PublisherWhy.{PublisherWhy}
use Rattle.cts_publisher.specs.declared.ending.PublisherWhy.TheVariants.{Ended, NoMemory, Cancelled}

-- the number under which it has its pass
abbrev pub publisher : ℕ
publisher = 29

-- every worker of the site has ended
abbrev pub AllEnded : SiteData → List Entry → Type 0
AllEnded site history = (m : ℕ) → is_worker site m ≡ true → has_ended m history ≡ true

-- What a look leaves: all that was seen waits for the next publication, and perhaps every worker has ended in it; or more stands.
abbrev pub SeesSo : SiteData → List Entry → Writes → Sight → Type 0
SeesSo site seen w More = Unit {0}
SeesSo site seen w Still = w.waiting ≡ seen
SeesSo site seen w Over = (w.waiting ≡ seen) × AllEnded site seen

-- Every worker has ended, and all that was seen is published; or no memory was found. One that was started is not cancelled.
abbrev pub EndsSo : SiteData → List Entry → Writes → PublisherWhy → Type 0
EndsSo site seen w Ended = (w.published ≡ seen) × AllEnded site seen
EndsSo site seen w NoMemory = Unit {0}
EndsSo site seen w Cancelled = ⊥
