-- What the publisher needs, and what it owes.
use Rattle.std.specs.Prelude.{◌≡◌, ℕ, ◌⊎◌, List, []}
use mathlib.Core.List.{IsPrefix}
use Rattle.cts_def.specs.Sites.{SiteData}
use Rattle.cts_entry.specs.declared.entry.Entry.{Entry}
use Rattle.cts_publisher.specs.Publishing.{EndsSo, publisher}
use Rattle.cts_publisher.specs.declared.ending.PublisherWhy.{PublisherWhy}
use Rattle.cts_publisher.specs.declared.ending.PublisherWhy.TheVariants.{Cancelled}
use Rattle.cts_snap.specs.Copies.{FitsIn, Writes}
use Rattle.cts_table.specs.declared.basis.Basis.{Basis}
use Rattle.cts_trace.specs.Makers.{of_maker}
use Rattle.cts_turn.specs.Lists.{StartsWith}

-- a writer that has published nothing and has nothing of the history
abbrev pub unwritten : Writes
unwritten = record { published = []; waiting = []; list = [] }

-- It has the number of the publisher, its copies are over the same site and limits that are no smaller, and nothing is written.
pub record MayPublish (basis over : Basis) (by : ℕ) (w : Writes) : Type 0 where
  pub number : by ≡ publisher
  pub fits : FitsIn basis over
  pub none : w ≡ unwritten

-- What a publisher that ran leaves: the history begins with what it has seen, and what is published and what it has of the history begin that.
pub record RanPublisher (site : SiteData) (history : List Entry) (now : Writes) (why : PublisherWhy) : Type 0 where
  pub seen : List Entry
  pub begins : StartsWith history seen
  pub published : IsPrefix now.published seen
  pub list : IsPrefix now.list seen
  pub ends : EndsSo site seen now why

-- One that was not started wrote nothing.
pub record UnstartedPublisher (now : Writes) (why : PublisherWhy) : Type 0 where
  pub none : now ≡ unwritten
  pub cancelled : why ≡ Cancelled

-- What the publisher owes at its end. It makes no entry.
pub record OwesPublisher (site : SiteData) (history : List Entry) (now : Writes) (why : PublisherWhy) : Type 0 where
  pub silent : of_maker publisher history ≡ []
  pub did : RanPublisher site history now why ⊎ UnstartedPublisher now why
