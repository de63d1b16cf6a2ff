-- What the worker of a desk needs, and what it owes.
use Rattle.std.specs.Prelude.{◌≡◌, ℕ, ◌⊎◌, Bool, true, false, List, [], ◌++◌, Option}
use Rattle.cts_def.specs.declared.time.Time.{Time}
use Rattle.cts_desk.specs.Ending.{CausesEnd, stops_all}
use Rattle.cts_desk.specs.Faults.{FaultsRise}
use Rattle.cts_desk.specs.Told.{Told, aim_of, past_of}
use Rattle.cts_desk.specs.declared.ending.DeskWhy.{DeskWhy}
use Rattle.cts_desk.specs.declared.ending.DeskWhy.TheVariants.{Stopped, Finished, DoorFailed, Cancelled}
use Rattle.cts_entry.specs.declared.entry.Entry.{Entry}
use Rattle.cts_entry.specs.Histories.{is_stopped}
use Rattle.cts_entry.specs.Workers.{is_desk}
use Rattle.cts_outside.specs.Lines.{Connection, Line, hung_up, told_after}
use Rattle.cts_outside.specs.Seen.{LineSeen}
use Rattle.cts_table.specs.declared.basis.Basis.{Basis}
use Rattle.cts_trace.specs.Makers.{LastEnded}
use Rattle.cts_worker.specs.Lasts.{last_entries}
use Rattle.cts_server.specs.declared.worked.DeskNote.{DeskNote}
use Rattle.cts_server.specs.Lasting.{Lasts}
use Rattle.cts_server.specs.Workers.{IsUnstarted, LastLook}

-- The worker is a desk of the site.
abbrev pub MayRunDesk : Basis → ℕ → Type 0
MayRunDesk basis by = is_desk basis.site by ≡ true

abbrev pub is_cancelled : DeskWhy → Bool
is_cancelled Stopped = false
is_cancelled Finished = false
is_cancelled DoorFailed = false
is_cancelled Cancelled = true

-- What a desk saw at its last look ends with its last entries; before them stand its exchanges, which are those of its connections.
pub record EndedDesk (basis : Basis) (by : ℕ) (stops : Bool) (fronts found : List ℕ) (seen : List Entry) (was : List Connection)
    (told : Option Line) : Type 0 where
  pub time : Time
  pub before : List Entry
  pub seen_is : seen ≡ before ++ last_entries stops by time before
  pub told_so : Told basis by fronts found seen (last_entries stops by time before) was told

-- What a desk that ran leaves, by what its door showed before and shows now. A connection that stood before is hung up, and is none of its
-- own. Whether a Stop stands is said of what it saw at its last look, since others may stop the server later. Its exchanges stand in the
-- whole history too. Its door has the same aim.
pub record RanDesk (basis : Basis) (by : ℕ) (found : List ℕ) (history : List Entry) (old new : LineSeen) (fronts : List ℕ) (why : DeskWhy) : Type 0 where
  pub seen : List Entry
  pub look : LastLook by seen history
  pub ends : EndedDesk basis by (stops_all why) fronts found seen (past_of (told_after hung_up old.told)) new.told
  pub stands : Told basis by fronts found history (last_entries (stops_all why) by ends.time ends.before) (past_of (told_after hung_up old.told))
      new.told
  pub ended : LastEnded by history
  pub cause : CausesEnd seen new.told old.failed_dials new.failed_dials why
  pub failed : (why ≡ DoorFailed → ⊥) → new.failed_dials ≡ old.failed_dials
  pub stops : stops_all why ≡ true → is_stopped seen ≡ true
  pub faults : FaultsRise old new
  pub aim : aim_of new.told ≡ aim_of old.told
  pub idle : new.linked ≡ false

-- A desk that was not started: its door is as it was.
pub record UnstartedDesk (by : ℕ) (history : List Entry) (old new : LineSeen) (fronts : List ℕ) (why : DeskWhy) : Type 0 where
  pub unstarted : IsUnstarted by history
  pub same : new ≡ old
  pub none : fronts ≡ []
  pub cancelled : why ≡ Cancelled

-- What a desk may owe at its end, by its number, the places at which its holds began, the history, what its door showed before and shows now, and
-- what it left beside the door.
abbrev pub DeskRule : Type 1
DeskRule = Basis → ℕ → List ℕ → List Entry → LineSeen → LineSeen → DeskNote → Type 0

-- It goes on to hold when others append.
abbrev pub DeskLasts : DeskRule → Type 0
DeskLasts rule = (basis : Basis) (by : ℕ) (found : List ℕ) (old new : LineSeen) (note : DeskNote)
    → Lasts by (λ (history : List Entry). rule basis by found history old new note)

-- What the worker of a desk owes at its end.
abbrev pub OwesDesk : Basis → ℕ → List ℕ → List Entry → LineSeen → LineSeen → List ℕ → DeskWhy → Type 0
OwesDesk basis by found history old new fronts why = RanDesk basis by found history old new fronts why ⊎ UnstartedDesk by history old new fronts why

-- A desk that reads in holds of the turn owes that, and each of its responses is of a beginning of the history.
abbrev pub ReadsInHolds : DeskRule
ReadsInHolds basis by found history old new note = OwesDesk basis by found history old new note.fronts note.why × (note.tied ≡ true)
