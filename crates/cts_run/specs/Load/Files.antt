-- Reading a whole file, up to a limit, and why a command halts at it, by its bytes.
use Rattle.std.specs.Prelude.{◌≡◌, ℕ, ◌<◌, ◌≤◌, nat_lt, false, List, length, Option, Some, None, Result, Ok, Err, IsSomeAnd, if◌then◌else◌}
use Rattle.cts_outside.specs.Causes.{Rose}
use Rattle.cts_outside.specs.Seen.{FilesSeen}
use Rattle.md5.specs.Md5.{md5}
use Rattle.cts_words.specs.declared.fault.WordFault.{WordFault}
use Rattle.cts_words.specs.declared.statement.Statement.{Statement}
use Rattle.cts_words.specs.Statements.{said}
use Rattle.cts_run.specs.Causes.{words_halt}
use Rattle.cts_run.specs.Phases.{HaltsAt, IsFound, is_fault, reading}
use Rattle.cts_run.specs.declared.halt.Halt.{Halt}
use Rattle.cts_run.specs.declared.halt.Halt.TheVariants.{Memory, Refused}
use Rattle.cts_run.specs.declared.halt.cause.Cause.{Cause}
use Rattle.cts_run.specs.declared.halt.cause.Cause.TheVariants.{TooLarge}
use Rattle.cts_run.specs.declared.halt.file_kind.FileKind.{FileKind}
use Rattle.cts_run.specs.declared.load.fetch.FetchFault.{FetchFault}
use Rattle.cts_run.specs.declared.load.fetch.FetchFault.TheVariants as fetch

-- the greatest file of a site or script
abbrev pub file_limit : ℕ
file_limit = 67108864

-- the greatest log
abbrev pub log_limit : ℕ
log_limit = 1073741824

-- ---- why a command halts at bytes

-- bytes that are too many are a reason to halt, and else they are judged
abbrev pub within : ℕ → Halt → (List ℕ → Option Halt) → List ℕ → Option Halt
within limit large judge bytes = if nat_lt limit (length bytes) then Some large else judge bytes

-- bytes are refused by the fault of their words, and else by what is said of their statements
abbrev pub judge_said : FileKind → List ℕ → (List Statement → Option Halt) → Result (List Statement) WordFault → Option Halt
judge_said kind name verdict (Err fault) = Some (words_halt kind name fault)
judge_said kind name verdict (Ok statements) = verdict statements

-- a file that is too large is refused as a whole, at line 0
abbrev pub too_large : FileKind → List ℕ → Halt
too_large kind name = Refused name kind 0 TooLarge

-- why a command halts at the bytes of a file of this kind and name
abbrev pub judge : FileKind → List ℕ → (List Statement → Option Halt) → List ℕ → Option Halt
judge kind name verdict bytes = within file_limit (too_large kind name) (λ b. judge_said kind name verdict (said b)) bytes

-- at the line and for the cause that its reading finds
abbrev pub verdict : {X : Type 0} → FileKind → List ℕ → Result X (ℕ × Cause) → Option Halt
verdict kind name (Err r) = Some (Refused name kind r.0 r.1)
verdict kind name (Ok x) = None

-- ---- what a reading gives

-- what a fetch says of the file; want of memory and faults say nothing of it
abbrev pub FetchGives : ℕ → Option (List ℕ) → Result (List ℕ) FetchFault → Type 0
FetchGives limit file (Ok bytes) = (file ≡ Some bytes) × (length bytes ≤ limit)
FetchGives limit file (Err fetch.TooLarge) = IsSomeAnd file (λ bytes. limit < length bytes)
FetchGives limit file (Err fetch.Absent) = file ≡ None
FetchGives limit file (Err fetch.Failed) = Unit {0}
FetchGives limit file (Err fetch.Memory) = Unit {0}

-- one of the counts rises at a fault and at an absent file, and both stay at every other answer
abbrev pub FetchCounts : {T : Type 0} → Result T FetchFault → FilesSeen → FilesSeen → Type 0
FetchCounts (Err fetch.Failed) old new = Rose old.faults new.faults × (new.absences ≡ old.absences)
FetchCounts (Err fetch.Absent) old new = (new.faults ≡ old.faults) × Rose old.absences new.absences
FetchCounts answer old new = IsFound old new

-- the bytes of a file up to a limit, or why a command halts at it, whatever is asked of the bytes
abbrev pub GivesBytes : ℕ → Halt → List ℕ → Option (List ℕ) → Result (List ℕ) Halt → Type 0
GivesBytes limit large name file (Ok bytes) = (file ≡ Some bytes) × (length bytes ≤ limit)
GivesBytes limit large name file (Err halt) = (judges : List ℕ → Option Halt) → HaltsAt (reading name (within limit large judges) file) halt

-- the statements of a file, or why a command halts at it, whatever is asked of the statements
abbrev pub GivesStatements : FileKind → List ℕ → Option (List ℕ) → Result (List Statement) Halt → Type 0
GivesStatements kind name file (Ok statements) = IsSomeAnd file (λ bytes. (length bytes ≤ file_limit) × (said bytes ≡ Ok statements))
GivesStatements kind name file (Err halt) = (verdicts : List Statement → Option Halt) → HaltsAt (reading name (judge kind name verdicts) file) halt

-- the same with the digest of the file's bytes
abbrev pub GivesDigested : FileKind → List ℕ → Option (List ℕ) → Result (List Statement × List ℕ) Halt → Type 0
GivesDigested kind name file (Ok given) = IsSomeAnd file (λ bytes. (length bytes ≤ file_limit) × (said bytes ≡ Ok given.0) × (given.1 ≡ md5 bytes))
GivesDigested kind name file (Err halt) = (verdicts : List Statement → Option Halt) → HaltsAt (reading name (judge kind name verdicts) file) halt

-- a command halts for this reason, or for want of memory
abbrev pub IsReason : Option Halt → Halt → Type 0
IsReason reason Memory = Unit {0}
IsReason reason halt = reason ≡ Some halt

-- the statements of a text, or why a command halts at it, whatever is asked of the statements
abbrev pub Says : FileKind → List ℕ → List ℕ → Result (List Statement) Halt → Type 0
Says kind name text (Ok statements) = said text ≡ Ok statements
Says kind name text (Err halt) = (is_fault halt ≡ false) × ((verdicts : List Statement → Option Halt)
    → IsReason (judge_said kind name verdicts (said text)) halt)

-- what is read of statements, or why a command halts at them
abbrev pub ReadsAs : {X : Type 0} → FileKind → List ℕ → Result X (ℕ × Cause) → Result X Halt → Type 0
ReadsAs kind name read (Ok x) = read ≡ Ok x
ReadsAs kind name read (Err halt) = IsReason (verdict kind name read) halt × (is_fault halt ≡ false)

-- the same twice
abbrev pub ReadsTwice : {X : Type 0} → FileKind → List ℕ → Result X (ℕ × Cause) → Result (X × X) Halt → Type 0
ReadsTwice kind name read (Ok both) = (read ≡ Ok both.0) × (read ≡ Ok both.1)
ReadsTwice kind name read (Err halt) = IsReason (verdict kind name read) halt × (is_fault halt ≡ false)
