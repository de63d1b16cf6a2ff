-- How a desk that reads from a pane ends, and what its door tells of it.
use Rattle.std.specs.Prelude.{◌≡◌, ℕ, ◌≤◌, Bool, true, List, [], ◌++◌, length, Option}
use Rattle.cts_def.specs.declared.time.Time.{Time}
use Rattle.cts_entry.specs.declared.entry.Entry.{Entry}
use Rattle.cts_entry.specs.Histories.{is_stopped}
use Rattle.cts_outside.specs.Causes.{Steady}
use Rattle.cts_outside.specs.Lines.{Connection, Line}
use Rattle.cts_table.specs.declared.basis.Basis.{Basis}
use Rattle.cts_turn.specs.declared.rule.View.{View}
use Rattle.cts_turn.specs.Lists.{climbs}
use Rattle.cts_worker.specs.Lasts.{last_entries}
use Rattle.cts_desk.specs.declared.ending.DeskWhy.{DeskWhy}
use Rattle.cts_desk.specs.declared.ending.DeskWhy.TheVariants.{Stopped, Finished, DoorFailed, Cancelled}
use Rattle.cts_desk.specs.Exchanges.{Among, fronts_of}
use Rattle.cts_desk.specs.Told.{Settled}
use Rattle.cts_snap_desk.specs.Given.{Given, OnlyLooks, Place, SnapExchanges, exchanges_of, held_fronts, start}
use Rattle.cts_snap_desk.specs.declared.ending.SnapWhy.{SnapWhy}
use Rattle.cts_snap_desk.specs.declared.ending.SnapWhy.TheVariants.{
  Stopped as SnapStopped,
  Finished as SnapFinished,
  DoorFailed as SnapDoorFailed,
  Cancelled as SnapCancelled,
}

-- the reason of a desk that has the same name
abbrev pub of_desk : DeskWhy → SnapWhy
of_desk Stopped = SnapStopped
of_desk Finished = SnapFinished
of_desk DoorFailed = SnapDoorFailed
of_desk Cancelled = SnapCancelled

abbrev pub desk_why : SnapWhy → DeskWhy
desk_why SnapStopped = Stopped
desk_why SnapFinished = Finished
desk_why SnapDoorFailed = DoorFailed
desk_why SnapCancelled = Cancelled

-- What a desk did: the exchanges with these fronts stand in what it has seen and in its pane's list, and are those of its connections; last are
-- the entries that it made besides. The fronts never fall, and those of holds stand among the places at which its holds began. Where no request
-- may append and the pane was not refused since the desk began, no front is beyond the pane's list.
pub record SnapTold (b : Basis) (by : ℕ) (pane : Basis) (list : List Entry) (began refused : ℕ) (fronts found : List ℕ)
    (seen last : List Entry) (was : List Connection) (told : Option Line) : Type 0 where
  pub given : List Given
  pub end : Place
  pub fronts_are : fronts ≡ fronts_of (exchanges_of given)
  pub among : Among (held_fronts given) found
  pub stand : SnapExchanges b by pane list start [] given end last seen
  pub rising : climbs 0 fronts end.floor ≡ true
  pub rises : began ≤ refused
  pub settled : Settled (is_stopped seen) was (exchanges_of given) told
  pub quiet : OnlyLooks (exchanges_of given) → Steady began refused → climbs 0 fronts (length list) ≡ true

-- A desk's exchanges stand in what it has seen, and then its last entries, the last of all.
pub record SnapEnds (b : Basis) (by : ℕ) (stops : Bool) (pane : Basis) (list : List Entry) (began refused : ℕ) (fronts : List ℕ)
    (v : View Entry Basis) (was : List Connection) (told : Option Line) : Type 0 where
  pub time : Time
  pub before : List Entry
  pub seen : v.seen ≡ before ++ last_entries stops by time before
  pub told_so : SnapTold b by pane list began refused fronts v.found v.seen (last_entries stops by time before) was told
