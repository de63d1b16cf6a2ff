-- The exit status of each status.
use Rattle.std.specs.Prelude.{ℕ}
use Rattle.cts_run.specs.declared.halt.status.Status.{Status}
use Rattle.cts_run.specs.declared.halt.status.Status.TheVariants.{Ok as Fine, Memory, Usage, ReadFault, Absent, WriteFault, ConfigRefused, ShelfEmpty}
use Rattle.cts_run.specs.declared.halt.status.Status.TheVariants.{ScriptRefused, HistoryFull, LogFault, LogRefused}
use Rattle.cts_run.specs.declared.halt.status.Status.TheVariants.{NoWorker, DoorFault, UnknownName, HubRefused}

abbrev pub exit_status : Status → ℕ
exit_status Fine = 0
exit_status Memory = 1
exit_status Usage = 2
exit_status ReadFault = 3
exit_status Absent = 3
exit_status WriteFault = 4
exit_status ConfigRefused = 5
exit_status ShelfEmpty = 6
exit_status ScriptRefused = 7
exit_status HistoryFull = 8
exit_status LogFault = 9
exit_status LogRefused = 10
exit_status NoWorker = 11
exit_status DoorFault = 12
exit_status UnknownName = 14
exit_status HubRefused = 15
