-- What a command answers, puts and appends, from the boxes on the shelf and the content of the files alone.
use Rattle.std.specs.Prelude.{◌≡◌, ℕ, ◌≤◌, Bool, true, false, List, [], ◌∷◌, ◌++◌, take, Option, Some, None, MatchOption, Result, Ok, Err, ◌⊎◌}
use Rattle.cts_chain.specs.Builds.{Taken}
use Rattle.cts_connection.specs.LineChains.{line_uses}
use Rattle.cts_outside.specs.Causes.{Rose}
use Rattle.cts_outside.specs.Seen.{FilesSeen, SinkSeen, VaultSeen}
use Rattle.cts_def.specs.Sites.{SiteData}
use Rattle.cts_entry.specs.declared.event.Event.{Event}
use Rattle.cts_ident_laws.specs.Named.{HaveNames}
use Rattle.cts_run.specs.declared.hub.ends.Ends.{Ends}
use Rattle.cts_proto.specs.Meaning.{Meaning}
use Rattle.cts_run.specs.Demo.{definitions_name, demo_files, demo_site, site_name}
use Rattle.cts_run.specs.Dump.{AreDumped, IsFileDump, IsReadAfter}
use Rattle.cts_run.specs.Endings.{halt_line, halt_status}
use Rattle.cts_run.specs.Extract.{IsExtract, extract_phases}
use Rattle.cts_run.specs.Hub.{HubKeeps, FillsAbove, IsHubOf, HubKeptOf, ends_of, hub_phases, joint, tied_phases}
use Rattle.cts_run.specs.Acts.{Act, AreDone, DoesAll, EndsWith, LogFails, Outside, PutFails, puts}
use Rattle.cts_run.specs.Lines.{log_fault_line, memory_line, read_fault_line, counts_line, usage_line}
use Rattle.cts_run.specs.Load.{bytes_of, definitions_asked, digest_asked, events_asked, script_phase, site_asked, site_phases}
use Rattle.cts_run.specs.Phases.{IsRead, Phase, first_halt}
use Rattle.cts_play.specs.Played.{played}
use Rattle.cts_run.specs.Play.{IsPlay, play_phases}
use Rattle.cts_run.specs.Rehearsal.{IsRehearsal}
use Rattle.cts_run.specs.Replay.{IsReplay}
use Rattle.cts_run.specs.Start.{shelf_phase}
use Rattle.cts_run.specs.declared.halt.Halt.{Halt}
use Rattle.cts_run.specs.declared.halt.Halt.TheVariants as halt
use Rattle.cts_run.specs.declared.halt.status.Status.{Status}
use Rattle.cts_run.specs.declared.halt.status.Status.TheVariants.{Ok as Fine, Memory, Usage, ReadFault, Absent, WriteFault, HistoryFull, LogFault}
use Rattle.cts_run.specs.declared.words.Command.{Command}
use Rattle.cts_run.specs.declared.words.Command.TheVariants.{Check, Replay, Rehearse, Dump, Play, Extract, Hub}

-- ---- the phases of each command, in order, and what is done where it halts at none of them

-- A dump does something of each file before it reads the next one, so that it has none before it does anything.

-- those up to the making of a world, in which its site is read and its boxes are taken
abbrev pub first_phases : List Meaning → (List ℕ → Option (List ℕ)) → List ℕ → List ℕ → List Phase
first_phases stock files definitions site = site_phases files definitions site ++ shelf_phase stock (site_asked files definitions site) ∷ []

abbrev pub phases : List Meaning → (List ℕ → Option (List ℕ)) → Command → List Phase
phases stock files (Check definitions site) = site_phases files definitions site
phases stock files (Replay definitions site script) =
    site_phases files definitions site ++ shelf_phase stock (site_asked files definitions site) ∷ script_phase files
    (site_asked files definitions site) script ∷ []
phases stock files (Rehearse number) = first_phases stock demo_files definitions_name site_name
phases stock files (Dump logs) = []
phases stock files (Play definitions site log) = play_phases stock files definitions site log
phases stock files (Extract definitions log wanted) = extract_phases files definitions log wanted
phases stock files (Hub definitions site script below tie) = hub_phases stock files definitions site script below tie

-- what a command does outside before its last line, and how it ends
abbrev pub IsDone : (List ℕ → Option (List ℕ)) → Command → List Act → Result (Unit {0}) Halt → Type 0
IsDone files (Check definitions site) acts due = (acts ≡ puts (counts_line (site_asked files definitions site))) × (due ≡ Ok tt)
IsDone files (Replay definitions site script) acts due =
    IsReplay (digest_asked files definitions) (site_asked files definitions site) script
    (events_asked files (site_asked files definitions site) script) acts due
IsDone files (Rehearse number) acts due = IsRehearsal demo_site number acts due
IsDone files (Dump logs) acts due = AreDumped files [] logs acts due
IsDone files (Play definitions site log) acts due = IsPlay (site_asked files definitions site) (bytes_of (files log)) acts due
IsDone files (Extract definitions log wanted) acts due = IsExtract (definitions_asked files definitions) wanted (bytes_of (files log)) acts due
IsDone files (Hub definitions site script below tie) acts due =
    IsHubOf (site_asked files definitions site) (site_asked files definitions below) script (events_asked files (site_asked files definitions site) script)
    (ends_of (site_asked files definitions site) (site_asked files definitions below) tie) acts due

-- a file of this name is read at one of these phases, before anything is done
abbrev pub IsReadFirst : List Phase → List Act → List ℕ → Type 0
IsReadFirst phases before name = (before ≡ []) × IsRead name phases

-- a file of this name is read after these acts
abbrev pub IsReadIn : List Meaning → (List ℕ → Option (List ℕ)) → Command → List Act → List ℕ → Type 0
IsReadIn stock files (Dump logs) before name = IsReadAfter files [] logs before name
IsReadIn stock files command before name = IsReadFirst (phases stock files command) before name

-- ---- what a command does

-- A command halts at the first phase that has a reason, before anything is done; else this is done.
abbrev pub IsDueOf : List Phase → (List Act → Result (Unit {0}) Halt → Type 0) → List Act → Result (Unit {0}) Halt → Type 0
IsDueOf phases done acts due = MatchOption (first_halt phases) (done acts due) (λ halt. (acts ≡ []) × (due ≡ Err halt))

-- What is done where those are the acts and that is the end. A read may have failed of a file that is read after some of the acts.
abbrev pub DoesOf : (List Act → List ℕ → Type 0) → List Act → Result (Unit {0}) Halt → Result (Unit {0}) Halt → Outside → Outside → Type 0
DoesOf reads acts due (Err (halt.ReadFault name)) old new = (n : ℕ) × reads (take n acts) name × AreDone (take n acts) old new
DoesOf reads acts due answer old new = DoesAll acts due answer old new

-- What was done, of acts and an end of which this holds, and with reads after such acts.
pub record PerformsBy (done : List Act → Result (Unit {0}) Halt → Type 0) (reads : List Act → List ℕ → Type 0) (answer : Result (Unit {0}) Halt)
    (old new : Outside) : Type 0 where
  pub acts : List Act
  pub due : Result (Unit {0}) Halt
  pub is : done acts due
  pub does : DoesOf reads acts due answer old new

-- What was done after these phases, or that the command halted at one of them.
abbrev pub PerformsOf : List Phase → (List Act → Result (Unit {0}) Halt → Type 0) → Result (Unit {0}) Halt → Outside → Outside → Type 0
PerformsOf phases done answer old new = PerformsBy (IsDueOf phases done) (IsReadFirst phases) answer old new

-- What was done of files that are dumped, each of which has to begin so.
abbrev pub Dumps : (List ℕ → Option (List ℕ)) → List ℕ → List (List ℕ) → Result (Unit {0}) Halt → Outside → Outside → Type 0
Dumps files head logs answer old new = PerformsBy (AreDumped files head logs) (IsReadAfter files head logs) answer old new

-- The same of one file, which may be the first of several.
abbrev pub DumpsFile : (List ℕ → Option (List ℕ)) → List ℕ → List ℕ → Result (Unit {0}) Halt → Outside → Outside → Type 0
DumpsFile files head log answer old new = PerformsBy (IsFileDump files head log) (λ before name. (before ≡ []) × (log ≡ name)) answer old new

-- A script was read and replayed in the world of a site, over definitions with this digest.
abbrev pub PerformsScript : (List ℕ → Option (List ℕ)) → List ℕ → SiteData → List ℕ → Result (Unit {0}) Halt → Outside → Outside → Type 0
PerformsScript files digest site script answer old new = PerformsOf (script_phase files site script ∷ [])
    (IsReplay digest site script (events_asked files site script)) answer old new

abbrev pub Performs : List Meaning → (List ℕ → Option (List ℕ)) → Command → Result (Unit {0}) Halt → Outside → Outside → Type 0
Performs stock files command answer old new =
    PerformsBy (IsDueOf (phases stock files command) (IsDone files command)) (IsReadIn stock files command) answer old new

-- ---- its outcome

-- a status, what is done before its last line is put, and that line
pub record Outcome : Type 0 where
  pub status : Status
  pub acts : List Act
  pub last : List ℕ

-- where the words fit no command
abbrev pub misused : Outcome
misused = record { status = Usage; acts = []; last = usage_line }

-- where a command has these acts and ends so
abbrev pub outcome_of : List Act → Result (Unit {0}) Halt → Outcome
outcome_of acts (Ok done) = record { status = Fine; acts = acts; last = [] }
outcome_of acts (Err halt) = record { status = halt_status halt; acts = acts; last = halt_line halt }

-- The outcome of a command, for a shelf with these boxes and files with this content.
pub record IsOutcomeOf (stock : List Meaning) (files : List ℕ → Option (List ℕ)) (command : Command) (o : Outcome) : Type 0 where
  pub acts : List Act
  pub due : Result (Unit {0}) Halt
  pub is : IsDueOf (phases stock files command) (IsDone files command) acts due
  pub outcome : o ≡ outcome_of acts due

abbrev pub IsOutcome : List Meaning → (List ℕ → Option (List ℕ)) → Option Command → Outcome → Type 0
IsOutcome stock files None o = o ≡ misused
IsOutcome stock files (Some command) o = IsOutcomeOf stock files command o

-- the file of this name is read after these acts
abbrev pub IsAskedFor : List Meaning → (List ℕ → Option (List ℕ)) → Option Command → List Act → List ℕ → Type 0
IsAskedFor stock files None before name = ⊥
IsAskedFor stock files (Some command) before name = IsReadIn stock files command before name

-- What was done where the outcome is this and the status that. Want of memory and faults may come in place of the outcome's own
-- status: then some of its acts were done, in their order, and of the one that failed a prefix. A fault comes only within an act:
-- where a last line can't be put, the outcome's status stays.
abbrev pub DoesFor : List Meaning → (List ℕ → Option (List ℕ)) → Option Command → Outcome → Status → Outside → Outside → Type 0
DoesFor stock files asked o Fine old new = (o.status ≡ Fine) × AreDone o.acts old new
DoesFor stock files asked o Memory old new = (n : ℕ) × EndsWith (take n o.acts) memory_line old new
DoesFor stock files asked o ReadFault old new =
    (n : ℕ) × (name : List ℕ) × IsAskedFor stock files asked (take n o.acts) name × EndsWith (take n o.acts) (read_fault_line name) old new
DoesFor stock files asked o WriteFault old new = PutFails o.acts old new
DoesFor stock files asked o LogFault old new = (mid : Outside) × LogFails o.acts old mid × EndsWith [] log_fault_line mid new
DoesFor stock files asked o status old new = (o.status ≡ status) × EndsWith o.acts o.last old new

-- ---- what is kept besides

-- Where all was done, the files are as the laws of playback and of hubs want them, so that what the outcome says of them needs no condition; and
-- where a hub finds the history full, it is that of the world above.
abbrev pub CommandKeeps : (List ℕ → Option (List ℕ)) → Command → Result (Unit {0}) Halt → Type 0
CommandKeeps files (Play definitions site log) (Ok done) = HaveNames (site_asked files definitions site).definitions
CommandKeeps files (Hub definitions site script below tie) answer =
    HubKeptOf (site_asked files definitions site) (site_asked files definitions below) (events_asked files (site_asked files definitions site) script)
    (ends_of (site_asked files definitions site) (site_asked files definitions below) tie) answer
CommandKeeps files command answer = Unit {0}

-- the same by the status
abbrev pub HubKeepsBy : SiteData → SiteData → List (ℕ × Event) → Option Ends → Status → Type 0
HubKeepsBy above below events None status = Unit {0}
HubKeepsBy above below events (Some ends) Fine = HubKeeps above below ends events
HubKeepsBy above below events (Some ends) HistoryFull = FillsAbove above events
HubKeepsBy above below events (Some ends) status = Unit {0}

abbrev pub Keeps : (List ℕ → Option (List ℕ)) → Option Command → Status → Type 0
Keeps files (Some (Play definitions site log)) Fine = HaveNames (site_asked files definitions site).definitions
Keeps files (Some (Hub definitions site script below tie)) status =
    HubKeepsBy (site_asked files definitions site) (site_asked files definitions below) (events_asked files (site_asked files definitions site) script)
    (ends_of (site_asked files definitions site) (site_asked files definitions below) tie) status
Keeps files asked status = Unit {0}

-- The command's outcome, what was done for it, and what is kept besides.
pub record Answers (stock : List Meaning) (files : List ℕ → Option (List ℕ)) (asked : Option Command) (status : Status) (old new : Outside) : Type 0 where
  pub outcome : Outcome
  pub is : IsOutcome stock files asked outcome
  pub does : DoesFor stock files asked outcome status old new
  pub keeps : Keeps files asked status

-- The outcome's status was answered, or want of memory.
pub record Completes (stock : List Meaning) (files : List ℕ → Option (List ℕ)) (asked : Option Command) (status : Status) : Type 0 where
  pub outcome : Outcome
  pub is : IsOutcome stock files asked outcome
  pub status_is : (status ≡ outcome.status) ⊎ (status ≡ Memory)

-- ---- its causes

-- No count falls.
pub record IsLater (files files' : FilesSeen) (out out' : SinkSeen) (vault vault' : VaultSeen) : Type 0 where
  pub read : files.faults ≤ files'.faults
  pub absent : files.absences ≤ files'.absences
  pub put : out.faults ≤ out'.faults
  pub kept : vault.faults ≤ vault'.faults

-- A fault comes only where its count rose, and all is done only where none did.
pub record IsCaused (status : Status) (files files' : FilesSeen) (out out' : SinkSeen) (vault vault' : VaultSeen) : Type 0 where
  pub read : status ≡ ReadFault → Rose files.faults files'.faults
  pub absent : status ≡ Absent → Rose files.absences files'.absences
  pub write : status ≡ WriteFault → Rose out.faults out'.faults
  pub log : status ≡ LogFault → Rose vault.faults vault'.faults
  pub fine : status ≡ Fine → (files'.faults ≡ files.faults) × (files'.absences ≡ files.absences) × (out'.faults ≡ out.faults) × (vault'.faults ≡ vault.faults)
  pub later : IsLater files files' out out' vault vault'

-- ---- the shelf

-- What is left of a shelf where these phases have that reason to halt, or none. With a reason it is as it was. Without one the boxes of all
-- chains of the site are gone, and no others; where memory ran out or a read failed that may have come before.
abbrev pub ShelfBy : SiteData → Option Halt → Result (Unit {0}) Halt → List Meaning → List Meaning → Type 0
ShelfBy site (Some halt) answer old new = new ≡ old
ShelfBy site None (Err halt.Memory) old new = (new ≡ old) ⊎ Taken old (line_uses site) new
ShelfBy site None (Err (halt.ReadFault name)) old new = (new ≡ old) ⊎ Taken old (line_uses site) new
ShelfBy site None answer old new = Taken old (line_uses site) new

-- the same by the status
abbrev pub ShelfAt : SiteData → Option Halt → Status → List Meaning → List Meaning → Type 0
ShelfAt site (Some halt) status old new = new ≡ old
ShelfAt site None Memory old new = (new ≡ old) ⊎ Taken old (line_uses site) new
ShelfAt site None ReadFault old new = (new ≡ old) ⊎ Taken old (line_uses site) new
ShelfAt site None status old new = Taken old (line_uses site) new

abbrev pub LeavesShelf : (List ℕ → Option (List ℕ)) → List ℕ → List ℕ → Result (Unit {0}) Halt → List Meaning → List Meaning → Type 0
LeavesShelf files definitions site answer old new = ShelfBy (site_asked files definitions site) (first_halt (first_phases old files definitions site))
    answer old new

-- A hub takes the boxes of both worlds. Memory may run out when those of the world above are taken.
abbrev pub HalfTaken : SiteData → Option Halt → Result (Unit {0}) Halt → List Meaning → List Meaning → Type 0
HalfTaken above None (Err halt.Memory) old new = Taken old (line_uses above) new
HalfTaken above first answer old new = ⊥

abbrev pub HalfTakenAt : SiteData → Option Halt → Status → List Meaning → List Meaning → Type 0
HalfTakenAt above None Memory old new = Taken old (line_uses above) new
HalfTakenAt above first status old new = ⊥

-- only a replay, a rehearsal, a playback and a hub take boxes
abbrev pub CommandLeaves : (List ℕ → Option (List ℕ)) → Command → Result (Unit {0}) Halt → List Meaning → List Meaning → Type 0
CommandLeaves files (Check definitions site) answer old new = new ≡ old
CommandLeaves files (Replay definitions site script) answer old new = LeavesShelf files definitions site answer old new
CommandLeaves files (Rehearse number) answer old new = LeavesShelf demo_files definitions_name site_name answer old new
CommandLeaves files (Dump logs) answer old new = new ≡ old
CommandLeaves files (Play definitions site log) answer old new = ShelfBy (played 2 (site_asked files definitions site))
    (first_halt (play_phases old files definitions site log)) answer old new
CommandLeaves files (Extract definitions log wanted) answer old new = new ≡ old
CommandLeaves files (Hub definitions site script below tie) answer old new =
    ShelfBy (joint (site_asked files definitions site) (site_asked files definitions below))
    (first_halt (tied_phases old files definitions site below tie)) answer old new
    ⊎ HalfTaken (site_asked files definitions site) (first_halt (tied_phases old files definitions site below tie)) answer old new

abbrev pub ShelfAfter : (List ℕ → Option (List ℕ)) → Option Command → Status → List Meaning → List Meaning → Type 0
ShelfAfter files (Some (Replay definitions site script)) status old new = ShelfAt (site_asked files definitions site)
    (first_halt (first_phases old files definitions site)) status old new
ShelfAfter files (Some (Rehearse number)) status old new = ShelfAt demo_site (first_halt (first_phases old demo_files definitions_name site_name))
    status old new
ShelfAfter files (Some (Play definitions site log)) status old new = ShelfAt (played 2 (site_asked files definitions site))
    (first_halt (play_phases old files definitions site log)) status old new
ShelfAfter files (Some (Hub definitions site script below tie)) status old new =
    ShelfAt (joint (site_asked files definitions site) (site_asked files definitions below))
    (first_halt (tied_phases old files definitions site below tie)) status old new
    ⊎ HalfTakenAt (site_asked files definitions site) (first_halt (tied_phases old files definitions site below tie)) status old new
ShelfAfter files asked status old new = new ≡ old

-- a command makes a world
abbrev pub makes_world : Option Command → Bool
makes_world (Some (Replay definitions site script)) = true
makes_world (Some (Rehearse number)) = true
makes_world (Some (Play definitions site log)) = true
makes_world (Some (Hub definitions site script below tie)) = true
makes_world asked = false

-- a command keeps packet logs
abbrev pub keeps_logs : Option Command → Bool
keeps_logs (Some (Replay definitions site script)) = true
keeps_logs asked = false
