-- The phases of a command before it does anything, and at which of them it halts.
use Rattle.std.specs.Prelude.{◌≡◌, ℕ, Bool, true, false, List, [], ◌∷◌, Option, Some, None, ◌⊎◌, Result, Ok, Err}
use Rattle.std.specs.Option.{option_or}
use Rattle.cts_outside.specs.Causes.{Rose}
use Rattle.cts_outside.specs.Seen.{FilesSeen}
use Rattle.cts_run.specs.declared.halt.Halt.{Halt}
use Rattle.cts_run.specs.declared.halt.Halt.TheVariants.{Memory, ReadFault, Absent, WriteFault, LogFault, HistoryFull, HubRefused, Misused}

-- A phase: the file that it reads, if it reads one, and why the command halts at it, if it does.
pub record Phase : Type 0 where
  pub reads : Option (List ℕ)
  pub halts : Option Halt

-- why a command halts at a file of this name and content, whose bytes are judged so; it is absent where there is none
abbrev pub file_halt : List ℕ → (List ℕ → Option Halt) → Option (List ℕ) → Option Halt
file_halt name judge None = Some (Absent name)
file_halt name judge (Some bytes) = judge bytes

-- a phase that reads a file
abbrev pub reading : List ℕ → (List ℕ → Option Halt) → Option (List ℕ) → Phase
reading name judge file = record { reads = Some name; halts = file_halt name judge file }

-- a phase that reads none
abbrev pub asking : Option Halt → Phase
asking halts = record { reads = None; halts = halts }

-- why a command with these phases halts: the reason of the first that has one
abbrev pub first_halt : List Phase → Option Halt
first_halt [] = None
first_halt (phase ∷ phases) = option_or phase.halts (first_halt phases)

-- the file of this name is read: the phases before it have no reason to halt
abbrev pub IsRead : List ℕ → List Phase → Type 0
IsRead name [] = ⊥
IsRead name (phase ∷ phases) = (phase.reads ≡ Some name) ⊎ ((phase.halts ≡ None) × IsRead name phases)

-- A command halts so within these phases. A read may fail of each file that is read, and memory may run out at any place.
abbrev pub HaltsIn : List Phase → Halt → Type 0
HaltsIn phases Memory = Unit {0}
HaltsIn phases (ReadFault name) = IsRead name phases
HaltsIn phases WriteFault = ⊥
HaltsIn phases LogFault = ⊥
HaltsIn phases halt = first_halt phases ≡ Some halt

-- the same of one phase
abbrev pub HaltsAt : Phase → Halt → Type 0
HaltsAt phase Memory = Unit {0}
HaltsAt phase (ReadFault name) = phase.reads ≡ Some name
HaltsAt phase WriteFault = ⊥
HaltsAt phase LogFault = ⊥
HaltsAt phase halt = phase.halts ≡ Some halt

-- A phase gives this value, or halts.
abbrev pub TakesAt : {T : Type 0} → Phase → T → Result T Halt → Type 0
TakesAt phase x (Ok y) = (phase.halts ≡ None) × (y ≡ x)
TakesAt phase x (Err halt) = HaltsAt phase halt

-- These phases give this value, or halt.
abbrev pub Takes : {T : Type 0} → List Phase → T → Result T Halt → Type 0
Takes phases x (Ok y) = (first_halt phases ≡ None) × (y ≡ x)
Takes phases x (Err halt) = HaltsIn phases halt

-- what neither a file that is there nor the shelf is a reason for: a fault of a file, of what is put or of a log, a full history, and what a
-- hub is asked for
abbrev pub is_fault : Halt → Bool
is_fault (ReadFault name) = true
is_fault (Absent name) = true
is_fault WriteFault = true
is_fault LogFault = true
is_fault (HistoryFull entries bytes) = true
is_fault (HubRefused cause) = true
is_fault Misused = true
is_fault halt = false

-- These phases, in which no file is read, give a value of which this holds, or halt.
abbrev pub Gives : {T : Type 0} → List Phase → (T → Type 0) → Result T Halt → Type 0
Gives phases holds (Ok x) = (first_halt phases ≡ None) × holds x
Gives phases holds (Err halt) = HaltsIn phases halt × (is_fault halt ≡ false)

-- the same answer, with the value of an Ok seen so
abbrev pub answer_seen : {V T E : Type 0} → (V → T) → Result V E → Result T E
answer_seen view (Ok x) = Ok (view x)
answer_seen view (Err e) = Err e

-- ---- the counts of files

-- no read failed, and none found no file
abbrev pub IsFound : FilesSeen → FilesSeen → Type 0
IsFound old new = (new.faults ≡ old.faults) × (new.absences ≡ old.absences)

-- one of the counts rises at a fault and at an absent file, and both stay where a command halts otherwise
abbrev pub HaltCounts : Halt → FilesSeen → FilesSeen → Type 0
HaltCounts (ReadFault name) old new = Rose old.faults new.faults × (new.absences ≡ old.absences)
HaltCounts (Absent name) old new = (new.faults ≡ old.faults) × Rose old.absences new.absences
HaltCounts halt old new = IsFound old new

-- and both stay where it does not halt
abbrev pub FileCounts : {T : Type 0} → Result T Halt → FilesSeen → FilesSeen → Type 0
FileCounts (Ok x) old new = IsFound old new
FileCounts (Err halt) old new = HaltCounts halt old new

-- the same where nothing is put, no log gets anything, there is no history and no hub is asked for
abbrev pub LoadHalts : Halt → FilesSeen → FilesSeen → Type 0
LoadHalts WriteFault old new = ⊥
LoadHalts LogFault old new = ⊥
LoadHalts (HistoryFull entries bytes) old new = ⊥
LoadHalts (HubRefused cause) old new = ⊥
LoadHalts Misused old new = ⊥
LoadHalts halt old new = HaltCounts halt old new

abbrev pub LoadCounts : {T : Type 0} → Result T Halt → FilesSeen → FilesSeen → Type 0
LoadCounts (Ok x) old new = IsFound old new
LoadCounts (Err halt) old new = LoadHalts halt old new
