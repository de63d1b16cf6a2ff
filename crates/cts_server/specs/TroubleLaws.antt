-- Laws of the troubles that are told.
use Rattle.std.specs.Prelude.{◌≡◌, ℕ, ◌<◌, Bool, true, false, Some, None}
use Rattle.std.specs.List.{AllByRecursion}
use Rattle.cts_desk.specs.declared.ending.DeskWhy.{DeskWhy}
use Rattle.cts_desk.specs.declared.ending.DeskWhy.TheVariants as desk
use Rattle.cts_line.specs.declared.ending.LineWhy.{LineWhy}
use Rattle.cts_line.specs.declared.ending.LineWhy.TheVariants as line
use Rattle.cts_scribe.specs.declared.ending.ScribeWhy.TheVariants as scribe
use Rattle.cts_server.specs.Troubles.{Left, has_closed, shows, trouble_of}
use Rattle.cts_server.specs.declared.outcome.trouble.Trouble.{Trouble}
use Rattle.cts_server.specs.declared.outcome.trouble.Trouble.TheVariants.{Memory, WriteFault, HistoryFull, LogFault, NoWorker, DoorFault}

-- the exit status that tells of a trouble
abbrev pub number : Trouble → ℕ
number Memory = 1
number WriteFault = 4
number HistoryFull = 8
number LogFault = 9
number NoWorker = 11
number DoorFault = 12

-- what is told is shown, and none with a lesser number is
abbrev pub TellsTheFirst : Type 0
TellsTheFirst = (l : Left) (told : Trouble) → trouble_of l ≡ Some told → (shows l told ≡ true) × ((t : Trouble) → number t < number told → shows l t ≡ false)

-- ---- where none is told

abbrev pub is_plain_line : LineWhy → Bool
is_plain_line line.Stopped = true
is_plain_line line.Finished = true
is_plain_line line.NoReconnect = true
is_plain_line why = false

abbrev pub is_plain_desk : DeskWhy → Bool
is_plain_desk desk.Stopped = true
is_plain_desk desk.Finished = true
is_plain_desk why = false

-- All was put, each line is stopped, finished or does not connect again, each desk is stopped or finished, the scribe is drained, and no
-- connection was closed for want of memory or of room.
pub record IsPlain (l : Left) : Type 0 where
  pub written : l.written ≡ true
  pub lines : AllByRecursion (λ why. is_plain_line why ≡ true) l.lines
  pub desks : AllByRecursion (λ n. is_plain_desk n.why ≡ true) l.desks
  pub scribe : l.scribe ≡ scribe.Drained
  pub memory : has_closed Memory l.history ≡ false
  pub room : has_closed HistoryFull l.history ≡ false

abbrev pub PlainWhereNoneIsTold : Type 0
PlainWhereNoneIsTold = (l : Left) → trouble_of l ≡ None → IsPlain l
