-- A dump: the lines of the entries of logs, file after file, and where one is refused.
use Rattle.std.specs.Prelude.{◌≡◌, ℕ, nat_eq, Bool, List, [], ◌∷◌, ◌++◌, length, take, Option, Some, None, MatchOption, ◌⊎◌, Result, Ok, Err}
use Rattle.std.specs.Prelude.{if◌then◌else◌}
use Rattle.cts_framing.specs.Patterns.{begins}
use Rattle.cts_log.specs.Dumping.{IsDumpLine}
use Rattle.cts_log.specs.Files.{log_head_len}
use Rattle.cts_log.specs.Logged.{Logged}
use Rattle.cts_log.specs.Reading.{HasNoHead, IsLogRead}
use Rattle.cts_log.specs.declared.kind.LogKind.{LogKind}
use Rattle.cts_outside.specs.Seen.{SinkSeen}
use Rattle.cts_run.specs.Acts.{Act, DoesAll, Outside, puts}
use Rattle.cts_run.specs.Load.{bytes_of}
use Rattle.cts_run.specs.Load.Files.{log_limit, within}
use Rattle.cts_run.specs.Phases.{Phase, reading}
use Rattle.cts_run.specs.Putting.{IsPut, FailsWithin}
use Rattle.cts_run.specs.declared.halt.Halt.{Halt}
use Rattle.cts_run.specs.declared.halt.Halt.TheVariants as halt
use Rattle.cts_run.specs.declared.putting.Undone.{Undone}
use Rattle.cts_run.specs.declared.putting.Undone.TheVariants as undone

-- the puts of the lines of entries, in their order
abbrev pub AreLines : List Logged → List Act → Type 0
AreLines [] acts = acts ≡ []
AreLines (e ∷ es) acts = (line : List ℕ) × (more : List Act) × IsDumpLine e line × AreLines es more × (acts ≡ puts line ++ more)

-- a log that was read up to this place, of a file of this length
abbrev pub dump_answer : ℕ → ℕ → Result (Unit {0}) Halt
dump_answer place len = if nat_eq place len then Ok tt else Err (halt.LogRefused place)

-- The lines of all whole entries of a log, of the layout with flags or of that without. It is refused at the first byte that is in no entry, if there is one.
pub record IsPrinted (file : List ℕ) (acts : List Act) (due : Result (Unit {0}) Halt) : Type 0 where
  pub kind : LogKind
  pub flagged : Bool
  pub entries : List Logged
  pub place : ℕ
  pub read : IsLogRead file kind flagged entries place
  pub lines : AreLines entries acts
  pub due_is : due ≡ dump_answer place (length file)

-- A file without the head of a log has no line, and is refused at its beginning.
pub record IsNoLog (file : List ℕ) (acts : List Act) (due : Result (Unit {0}) Halt) : Type 0 where
  pub none : HasNoHead file
  pub nothing : acts ≡ []
  pub refused : due ≡ Err (halt.LogRefused 0)

-- what is done of a file before the last line, and how its dump ends
abbrev pub IsDump : List ℕ → List Act → Result (Unit {0}) Halt → Type 0
IsDump file acts due = IsPrinted file acts due ⊎ IsNoLog file acts due

-- The lines of a log were put.
pub record PutsLines (file : List ℕ) (answer : Result (Unit {0}) Halt) (old new : Outside) : Type 0 where
  pub acts : List Act
  pub due : Result (Unit {0}) Halt
  pub printed : IsPrinted file acts due
  pub does : DoesAll acts due answer old new

-- A file was dumped.
pub record PutsLog (file : List ℕ) (answer : Result (Unit {0}) Halt) (old new : Outside) : Type 0 where
  pub acts : List Act
  pub due : Result (Unit {0}) Halt
  pub is : IsDump file acts due
  pub does : DoesAll acts due answer old new

-- The line of an entry was put, or why not.
abbrev pub PutsEntry : Logged → Result (Unit {0}) Undone → SinkSeen → SinkSeen → Type 0
PutsEntry e (Ok done) old new = (line : List ℕ) × IsDumpLine e line × IsPut line old new
PutsEntry e (Err undone.WriteFault) old new = (line : List ℕ) × IsDumpLine e line × FailsWithin line old new
PutsEntry e (Err undone.LogFault) old new = ⊥
PutsEntry e (Err undone.Memory) old new = new ≡ old

-- ---- a file among others

-- a file that does not begin with the head of the first one is refused at its beginning
abbrev pub other_head : List ℕ → List ℕ → Option Halt
other_head head file = if begins head file then None else Some (halt.LogRefused 0)

-- what the files after one have to begin with: the first 128 bytes of the first file
abbrev pub head_after : List ℕ → List ℕ → List ℕ
head_after [] file = take log_head_len file
head_after (c ∷ head) file = c ∷ head

-- the log is read; one that is too large is refused at the limit, and one that has another head at its beginning
abbrev pub log_phase : (List ℕ → Option (List ℕ)) → List ℕ → List ℕ → Phase
log_phase files head name = reading name (within log_limit (halt.LogRefused log_limit) (other_head head)) (files name)

-- The dump of a file which has to begin so: it has no line where its phase has a reason to halt.
abbrev pub IsFileDump : (List ℕ → Option (List ℕ)) → List ℕ → List ℕ → List Act → Result (Unit {0}) Halt → Type 0
IsFileDump files head name acts due = MatchOption (log_phase files head name).halts (IsDump (bytes_of (files name)) acts due)
    (λ halt. (acts ≡ []) × (due ≡ Err halt))

-- The bytes of a file which has to begin so were dumped.
pub record PutsFile (head file : List ℕ) (answer : Result (Unit {0}) Halt) (old new : Outside) : Type 0 where
  pub acts : List Act
  pub due : Result (Unit {0}) Halt
  pub is : MatchOption (other_head head file) (IsDump file acts due) (λ halt. (acts ≡ []) × (due ≡ Err halt))
  pub does : DoesAll acts due answer old new

-- ---- several files

-- what is done after acts that ended so: after an end that is well that, and else nothing
abbrev pub GoesOn : Result (Unit {0}) Halt → (List Act → Result (Unit {0}) Halt → Type 0) → List Act → List Act → Result (Unit {0}) Halt → Type 0
GoesOn (Ok done) next own acts due = (more : List Act) × next more due × (acts ≡ own ++ more)
GoesOn (Err halt) next own acts due = (acts ≡ own) × (due ≡ Err halt)

-- The dump of files, one after the other, up to and with the first that is refused or is not there. Each has to begin so, or, where nothing is
-- said, as the first one does.
abbrev pub AreDumped : (List ℕ → Option (List ℕ)) → List ℕ → List (List ℕ) → List Act → Result (Unit {0}) Halt → Type 0
AreDumped files head [] acts due = (acts ≡ []) × (due ≡ Ok tt)
AreDumped files head (name ∷ names) acts due =
    (own : List Act) × (ended : Result (Unit {0}) Halt) × IsFileDump files head name own ended
    × GoesOn ended (AreDumped files (head_after head (bytes_of (files name))) names) own acts due

-- A file of this name is read after these acts, which are those of the files before it.
abbrev pub IsReadAfter : (List ℕ → Option (List ℕ)) → List ℕ → List (List ℕ) → List Act → List ℕ → Type 0
IsReadAfter files head [] before name = ⊥
IsReadAfter files head (log ∷ logs) before name =
    ((before ≡ []) × (log ≡ name))
    ⊎ ((own : List Act) × (more : List Act) × IsFileDump files head log own (Ok tt)
    × IsReadAfter files (head_after head (bytes_of (files log))) logs more name × (before ≡ own ++ more))
