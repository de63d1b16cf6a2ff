-- What the worker of a desk needs that reads from a pane, and what it owes.
use Rattle.std.specs.Prelude.{◌≡◌, ℕ, ◌⊎◌, Bool, true, false, List, [], ◌++◌, Option}
use Rattle.cts_def.specs.declared.time.Time.{Time}
use Rattle.cts_desk.specs.Ending.{CausesEnd, stops_all}
use Rattle.cts_desk.specs.Faults.{FaultsRise}
use Rattle.cts_desk.specs.Told.{aim_of, past_of}
use Rattle.cts_desk.specs.declared.ending.DeskWhy.{DeskWhy}
use Rattle.cts_desk.specs.declared.ending.DeskWhy.TheVariants.{Cancelled, DoorFailed}
use Rattle.cts_entry.specs.declared.entry.Entry.{Entry}
use Rattle.cts_entry.specs.Histories.{is_stopped}
use Rattle.cts_entry.specs.Workers.{is_desk}
use Rattle.cts_outside.specs.Lines.{Connection, Line, hung_up, told_after}
use Rattle.cts_outside.specs.Seen.{LineSeen}
use Rattle.cts_snap_desk.specs.Ending.{SnapTold}
use Rattle.cts_table.specs.declared.basis.Basis.{Basis}
use Rattle.cts_trace.specs.Makers.{LastEnded, of_maker}
use Rattle.cts_turn.specs.Lists.{StartsWith}
use Rattle.cts_worker.specs.Lasts.{first_moment, last_entries}

-- what is seen of a pane: its basis, its list and its count of refusals
pub record PaneSeen : Type 0 where
  pub basis : Basis
  pub list : List Entry
  pub refused : ℕ

-- by what each of these is of a pane
abbrev pub pane_of : {P : Type 0} → (P → Basis) → (P → List Entry) → (P → ℕ) → P → PaneSeen
pane_of basis list refused pane = record { basis = basis pane; list = list pane; refused = refused pane }

-- The worker is a desk of the site, of which its pane is too.
pub record MayRunSnapDesk (basis : Basis) (by : ℕ) (pane : PaneSeen) : Type 0 where
  pub desk : is_desk basis.site by ≡ true
  pub site : pane.basis.site ≡ basis.site

-- What a desk saw at its last look ends with its last entries. Before them stand its exchanges, which are those of its connections: those of holds in
-- what it saw, and those that it read in its pane's list.
pub record EndedSnapDesk (basis : Basis) (by : ℕ) (stops : Bool) (before now : PaneSeen) (fronts found : List ℕ) (seen : List Entry)
    (was : List Connection) (told : Option Line) : Type 0 where
  pub time : Time
  pub earlier : List Entry
  pub seen_is : seen ≡ earlier ++ last_entries stops by time earlier
  pub told_so : SnapTold basis by now.basis now.list before.refused now.refused fronts found seen (last_entries stops by time earlier) was told

-- What a desk that ran leaves, by what its door and its pane showed before and show now. The history begins with what it saw at its last look, and
-- has no other entry of it.
pub record RanSnapDesk (basis : Basis) (by : ℕ) (found : List ℕ) (history : List Entry) (old new : LineSeen) (before now : PaneSeen) (fronts : List ℕ)
    (why : DeskWhy) : Type 0 where
  pub seen : List Entry
  pub begins : StartsWith history seen
  pub own : of_maker by history ≡ of_maker by seen
  pub ends : EndedSnapDesk basis by (stops_all why) before now fronts found seen (past_of (told_after hung_up old.told)) new.told
  pub ended : LastEnded by history
  pub cause : CausesEnd seen new.told old.failed_dials new.failed_dials why
  pub failed : (why ≡ DoorFailed → ⊥) → new.failed_dials ≡ old.failed_dials
  pub stops : stops_all why ≡ true → is_stopped seen ≡ true
  pub faults : FaultsRise old new
  pub aim : aim_of new.told ≡ aim_of old.told
  pub idle : new.linked ≡ false

-- A desk that was not started: a Stop stands, all its entries are its last ones, at the first moment, and its door and its pane are as they were.
pub record UnstartedSnapDesk (by : ℕ) (history : List Entry) (old new : LineSeen) (before now : PaneSeen) (fronts : List ℕ) (why : DeskWhy) : Type 0 where
  pub stood : List Entry
  pub begins : StartsWith history stood
  pub own : of_maker by history ≡ last_entries true by first_moment stood
  pub stopped : is_stopped history ≡ true
  pub same : new ≡ old
  pub unread : now ≡ before
  pub none : fronts ≡ []
  pub cancelled : why ≡ Cancelled

-- What the worker of such a desk owes at its end.
abbrev pub OwesSnapDesk : Basis → ℕ → List ℕ → List Entry → LineSeen → LineSeen → PaneSeen → PaneSeen → List ℕ → DeskWhy → Type 0
OwesSnapDesk basis by found history old new before now fronts why =
    RanSnapDesk basis by found history old new before now fronts why ⊎ UnstartedSnapDesk by history old new before now fronts why
