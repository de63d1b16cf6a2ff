-- How a command ends: the status and the last line of each reason to halt.
use Rattle.std.specs.Prelude.{◌≡◌, ℕ, Bool, true, false, List, [], ◌⊎◌, Result, Ok, Err}
use Rattle.cts_outside.specs.Seen.{SinkSeen}
use Rattle.cts_run.specs.Causes.{cause_text}
use Rattle.cts_run.specs.Lines.{memory_line, read_fault_line, absent_line, log_fault_line, refused_line, shelf_line}
use Rattle.cts_run.specs.Lines.{full_line, log_line, unknown_line, hub_line, usage_line}
use Rattle.cts_run.specs.Putting.{Printed}
use Rattle.cts_run.specs.declared.halt.Halt.{Halt}
use Rattle.cts_run.specs.declared.halt.Halt.TheVariants.{Memory, ReadFault, Absent, WriteFault, Refused, ShelfEmpty, HistoryFull, LogFault}
use Rattle.cts_run.specs.declared.halt.Halt.TheVariants.{LogRefused, UnknownName, HubRefused, Misused}
use Rattle.cts_run.specs.declared.halt.ending.LastLine.{LastLine}
use Rattle.cts_run.specs.declared.halt.ending.LastLine.TheVariants.{Known, Made}
use Rattle.cts_run.specs.declared.halt.file_kind.FileKind.{FileKind}
use Rattle.cts_run.specs.declared.halt.file_kind.FileKind.TheVariants.{Configuration, Script}
use Rattle.cts_run.specs.declared.halt.status.Status.{Status}
use Rattle.cts_run.specs.declared.halt.status.Status.TheVariants as is

-- the status of a file of this kind that is refused
abbrev pub refused_as : FileKind → Status
refused_as Configuration = is.ConfigRefused
refused_as Script = is.ScriptRefused

-- the table of statuses
abbrev pub halt_status : Halt → Status
halt_status Memory = is.Memory
halt_status (ReadFault name) = is.ReadFault
halt_status (Absent name) = is.Absent
halt_status WriteFault = is.WriteFault
halt_status (Refused name kind line cause) = refused_as kind
halt_status (ShelfEmpty kind needed stocked) = is.ShelfEmpty
halt_status (HistoryFull entries bytes) = is.HistoryFull
halt_status LogFault = is.LogFault
halt_status (LogRefused place) = is.LogRefused
halt_status (UnknownName name) = is.UnknownName
halt_status (HubRefused cause) = is.HubRefused
halt_status Misused = is.Usage

-- the table of last lines; after a put that failed there is none
abbrev pub halt_line : Halt → List ℕ
halt_line Memory = memory_line
halt_line (ReadFault name) = read_fault_line name
halt_line (Absent name) = absent_line name
halt_line WriteFault = []
halt_line (Refused name kind line cause) = refused_line name line (cause_text cause)
halt_line (ShelfEmpty kind needed stocked) = shelf_line kind needed stocked
halt_line (HistoryFull entries bytes) = full_line entries bytes
halt_line LogFault = log_fault_line
halt_line (LogRefused place) = log_line place
halt_line (UnknownName name) = unknown_line name
halt_line (HubRefused cause) = hub_line cause
halt_line Misused = usage_line

-- the last line has to be made, so that want of memory may be told in its place
abbrev pub takes_memory : Halt → Bool
takes_memory Memory = false
takes_memory WriteFault = false
takes_memory LogFault = false
takes_memory (HubRefused cause) = false
takes_memory Misused = false
takes_memory halt = true

abbrev pub line_text : LastLine → List ℕ
line_text (Known line) = line.now
line_text (Made line) = line.items

-- The last line of a command that halts was put, and the status is its own; or want of memory is told in its place.
abbrev pub EndsHalted : Halt → Status → SinkSeen → SinkSeen → Type 0
EndsHalted halt status old new =
    ((status ≡ halt_status halt) × Printed old new (halt_line halt))
    ⊎ ((takes_memory halt ≡ true) × (status ≡ is.Memory) × Printed old new memory_line)

-- the status of a command that did all or halted, and what is put then
abbrev pub Ends : Result (Unit {0}) Halt → Status → SinkSeen → SinkSeen → Type 0
Ends (Ok done) status old new = (status ≡ is.Ok) × (new ≡ old)
Ends (Err halt) status old new = EndsHalted halt status old new
