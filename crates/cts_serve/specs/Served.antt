-- How a server ends whose workers have worked: its status, and what it puts last.
use Rattle.std.specs.Prelude.{◌≡◌, ◌≤◌, ◌⊎◌, ℕ, Bool, true, false, List, [], ◌∷◌, length, Option, Some, None}
use Rattle.std.specs.List.{AllByRecursion}
use Rattle.cts_server.specs.TroubleLaws.{is_plain_desk, is_plain_line}
use Rattle.cts_server.specs.Troubles.{Left, has_closed, trouble_of}
use Rattle.cts_server.specs.declared.outcome.trouble.Trouble.{Trouble}
use Rattle.cts_server.specs.declared.outcome.trouble.Trouble.TheVariants as trouble
use Rattle.cts_entry.specs.Histories.{bytes_in, entries_in}
use Rattle.cts_entry.specs.declared.entry.Entry.{Entry}
use Rattle.cts_line.specs.declared.ending.LineWhy.{LineWhy}
use Rattle.cts_outside.specs.Causes.{Rose, Steady}
use Rattle.cts_outside.specs.Seen.{CrewSeen, FilesSeen, LineSeen, SinkSeen, VaultSeen}
use Rattle.cts_scribe.specs.declared.ending.ScribeWhy.{ScribeWhy}
use Rattle.cts_scribe.specs.declared.ending.ScribeWhy.TheVariants as scribe
use Rattle.cts_server.specs.declared.worked.DeskNote.{DeskNote}
use Rattle.cts_run.specs.Lines.{end_line, full_line, log_fault_line, memory_line}
use Rattle.cts_run.specs.Putting.{FailsWithin, IsPut, Printed}
use Rattle.cts_run.specs.declared.halt.status.Status.{Status}
use Rattle.cts_run.specs.declared.halt.status.Status.TheVariants as is
use Rattle.cts_serve.specs.Lines.{door_fault_line, no_worker_line}
use Rattle.cts_serve.specs.declared.serving.ended.Ended.{Ended}

-- ---- the status and the last line of each trouble

abbrev pub trouble_status : Option Trouble → Status
trouble_status None = is.Ok
trouble_status (Some trouble.Memory) = is.Memory
trouble_status (Some trouble.WriteFault) = is.WriteFault
trouble_status (Some trouble.HistoryFull) = is.HistoryFull
trouble_status (Some trouble.LogFault) = is.LogFault
trouble_status (Some trouble.NoWorker) = is.NoWorker
trouble_status (Some trouble.DoorFault) = is.DoorFault

-- of a server that left this history; after a put that failed there is no line
abbrev pub trouble_line : Option Trouble → List Entry → List ℕ
trouble_line None history = []
trouble_line (Some trouble.Memory) history = memory_line
trouble_line (Some trouble.WriteFault) history = []
trouble_line (Some trouble.HistoryFull) history = full_line (entries_in history) (bytes_in history)
trouble_line (Some trouble.LogFault) history = log_fault_line
trouble_line (Some trouble.NoWorker) history = no_worker_line
trouble_line (Some trouble.DoorFault) history = door_fault_line

-- what a server left, where the number of its entries was put or not
abbrev pub left : Bool → List LineWhy → List DeskNote → ScribeWhy → List Entry → Left
left written lines desks scribe history = record { written = written; lines = lines; desks = desks; scribe = scribe; history = history }

-- a text was put, or a put failed within it
abbrev pub PutsWhole : List ℕ → Bool → SinkSeen → SinkSeen → Type 0
PutsWhole text true old new = IsPut text old new
PutsWhole text false old new = FailsWithin text old new

-- After a text the number of entries was put, and then the last line of the first trouble that shows, or a beginning of it where its put
-- failed. Where the number could not be put, the count rose, a beginning of it stands, and nothing more was put; that is then a trouble
-- itself, and shows before those that have greater numbers.
pub record EndsServing (text : List ℕ) (lines : List LineWhy) (desks : List DeskNote) (scribe : ScribeWhy) (history : List Entry) (status : Status)
    (old new : SinkSeen) : Type 0 where
  pub ready : SinkSeen
  pub mid : SinkSeen
  pub written : Bool
  pub is_ready : IsPut text old ready
  pub counted : PutsWhole (end_line (length history)) written ready mid
  pub status_is : status ≡ trouble_status (trouble_of (left written lines desks scribe history))
  pub last : written ≡ true → Printed mid new (trouble_line (trouble_of (left written lines desks scribe history)) history)
  pub quiet : written ≡ true → trouble_of (left written lines desks scribe history) ≡ None → new ≡ mid
  pub none : written ≡ false → new ≡ mid

-- a server that was not started left nothing
pub record LeftNothing (e : Ended) : Type 0 where
  pub history : e.history ≡ []
  pub lines : e.lines ≡ []
  pub desks : e.desks ≡ []
  pub scribe : e.scribe ≡ None

-- ---- what statuses say

-- the statuses that a server has which was started, beside those that a server has too which was not
abbrev pub serves_on : Status → Bool
serves_on is.Ok = true
serves_on is.HistoryFull = true
serves_on is.LogFault = true
serves_on is.NoWorker = true
serves_on is.DoorFault = true
serves_on status = false

-- the count of a vault in its place has risen, or stayed, or did not rise
abbrev pub VaultRose : {V : Type 0} → (V → VaultSeen) → Option V → Option V → Type 0
VaultRose seen (Some before) (Some now) = Rose (seen before).faults (seen now).faults
VaultRose seen (Some before) None = ⊥
VaultRose seen None now = ⊥

abbrev pub VaultStays : {V : Type 0} → (V → VaultSeen) → Option V → Option V → Type 0
VaultStays seen (Some before) (Some now) = (seen now).faults ≡ (seen before).faults
VaultStays seen (Some before) None = ⊥
VaultStays seen None now = ⊥

abbrev pub VaultIsSteady : {V : Type 0} → (V → VaultSeen) → Option V → Option V → Type 0
VaultIsSteady seen (Some before) (Some now) = Steady (seen before).faults (seen now).faults
VaultIsSteady seen (Some before) None = ⊥
VaultIsSteady seen None now = ⊥

-- a device stands in the place again, and its count of failed dials has risen
abbrev pub DialFailed : {X : Type 0} → (X → LineSeen) → Option X → Option X → Type 0
DialFailed seen (Some x) (Some y) = Rose (seen x).failed_dials (seen y).failed_dials
DialFailed seen (Some x) None = ⊥
DialFailed seen None y = ⊥

-- that of a device in one of the places
abbrev pub DialFailedIn : {X : Type 0} → (X → LineSeen) → List (Option X) → List (Option X) → Type 0
DialFailedIn seen [] new = ⊥
DialFailedIn seen (x ∷ old) [] = ⊥
DialFailedIn seen (x ∷ old) (y ∷ new) = DialFailed seen x y ⊎ DialFailedIn seen old new

-- Nothing failed: no count rose, each line is stopped, finished or does not connect again, each desk is stopped or finished, the scribe is
-- drained, and no connection was closed for want of memory or of room.
pub record IsFine {V : Type 0} (seen : V → VaultSeen) (files files' : FilesSeen) (out out' : SinkSeen) (vault vault' : Option V)
    (crew crew' : CrewSeen) (e : Ended) : Type 0 where
  pub read : files'.faults ≡ files.faults
  pub absent : files'.absences ≡ files.absences
  pub put : out'.faults ≡ out.faults
  pub kept : VaultStays seen vault vault'
  pub jobs : crew'.faults ≤ crew.faults
  pub lines : AllByRecursion (λ why. is_plain_line why ≡ true) e.lines
  pub desks : AllByRecursion (λ n. is_plain_desk n.why ≡ true) e.desks
  pub scribe : e.scribe ≡ Some scribe.Drained
  pub memory : has_closed trouble.Memory e.history ≡ false
  pub room : has_closed trouble.HistoryFull e.history ≡ false
