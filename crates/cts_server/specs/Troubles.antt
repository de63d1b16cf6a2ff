-- The troubles that a server shows at its end, and which of them is told.
use Rattle.std.specs.Prelude.{Bool, true, false, not, ◌||◌, List, [], ◌∷◌, Option, find}
use Rattle.std.specs.List.{list_any}
use Rattle.cts_desk.specs.declared.ending.DeskWhy.{DeskWhy}
use Rattle.cts_desk.specs.declared.ending.DeskWhy.TheVariants as desk
use Rattle.cts_entry.specs.declared.entry.Entry.{Entry}
use Rattle.cts_entry.specs.declared.why.Why.{Why}
use Rattle.cts_entry.specs.declared.why.Why.TheVariants as closed
use Rattle.cts_line.specs.declared.ending.LineWhy.{LineWhy}
use Rattle.cts_line.specs.declared.ending.LineWhy.TheVariants as line
use Rattle.cts_scribe.specs.declared.ending.ScribeWhy.{ScribeWhy}
use Rattle.cts_scribe.specs.declared.ending.ScribeWhy.TheVariants as scribe
use Rattle.cts_server.specs.declared.worked.DeskNote.{DeskNote}
use Rattle.cts_trace.specs.Makers.{closes_for}
use Rattle.cts_server.specs.declared.outcome.trouble.Trouble.{Trouble}
use Rattle.cts_server.specs.declared.outcome.trouble.Trouble.TheVariants.{Memory, WriteFault, HistoryFull, LogFault, NoWorker, DoorFault}

-- What a server left: whether what it had to put was put, why its lines, its desks and its scribe ended, and its history.
pub record Left : Type 0 where
  pub written : Bool
  pub lines : List LineWhy
  pub desks : List DeskNote
  pub scribe : ScribeWhy
  pub history : List Entry

-- ---- what shows a trouble

-- why a line ended
abbrev pub line_shows : Trouble → LineWhy → Bool
line_shows Memory line.NoMemory = true
line_shows HistoryFull line.Full = true
line_shows NoWorker line.Cancelled = true
line_shows DoorFault line.DoorFailed = true
line_shows trouble why = false

-- why a desk ended
abbrev pub desk_shows : Trouble → DeskWhy → Bool
desk_shows NoWorker desk.Cancelled = true
desk_shows DoorFault desk.DoorFailed = true
desk_shows trouble why = false

-- why one of the desks ended
abbrev pub has_desk : Trouble → List DeskNote → Bool
has_desk trouble notes = list_any (λ n. desk_shows trouble n.why) notes

-- why the scribe ended
abbrev pub scribe_shows : Trouble → ScribeWhy → Bool
scribe_shows Memory scribe.NoMemory = true
scribe_shows LogFault scribe.VaultFailed = true
scribe_shows NoWorker scribe.Cancelled = true
scribe_shows trouble why = false

-- why a connection was closed
abbrev pub closed_shows : Trouble → Why → Bool
closed_shows Memory closed.NoMemory = true
closed_shows HistoryFull closed.Full = true
closed_shows trouble why = false

-- a connection was closed for a reason that shows it
abbrev pub has_closed : Trouble → List Entry → Bool
has_closed trouble history = list_any (λ e. closes_for (closed_shows trouble) e.what) history

-- what was left shows it: a fault of what was put shows there alone
abbrev pub shows : Left → Trouble → Bool
shows l WriteFault = not l.written
shows l trouble = list_any (line_shows trouble) l.lines || (has_desk trouble l.desks || (scribe_shows trouble l.scribe || has_closed trouble l.history))

-- ---- which of them is told

-- the order in which one of several is told
abbrev pub order : List Trouble
order = Memory ∷ WriteFault ∷ HistoryFull ∷ LogFault ∷ NoWorker ∷ DoorFault ∷ []

-- the trouble that is told
abbrev pub trouble_of : Left → Option Trouble
trouble_of l = find (shows l) order
