-- Playback of a log of packets: the run of its entries in the site that plays it, what that puts, and where the log is refused.
use Rattle.std.specs.Prelude.{◌≡◌, ℕ, nat_eq, nat_lt, Bool, true, false, List, [], ◌∷◌, ◌++◌, length, map, take, Option, Some, None}
use Rattle.std.specs.Prelude.{◌⊎◌, Result, Ok, Err, if◌then◌else◌}
use Rattle.std.specs.List.{AllByRecursion}
use Rattle.cts_connection.specs.Routings.{is_logged}
use Rattle.cts_core.specs.Environments.{basis_of, site_environment}
use Rattle.cts_core.specs.Runs.{Did, Ending, Finished, NotEnabled, HistoryFull, Runs}
use Rattle.cts_core.specs.States.{State, opening}
use Rattle.cts_core.specs.declared.fault.WorldFault.{WorldFault}
use Rattle.cts_core.specs.declared.fault.WorldFault.TheVariants as fault
use Rattle.cts_core_laws.specs.Told.{history_of}
use Rattle.cts_def.specs.Sites.{SiteData}
use Rattle.cts_def.specs.declared.time.Time.{Time}
use Rattle.cts_entry.specs.Histories.{entries_in, bytes_in}
use Rattle.cts_entry.specs.Legal.{IsLegal}
use Rattle.cts_entry.specs.declared.entry.Entry.{Entry}
use Rattle.cts_entry.specs.declared.event.Event.{Event}
use Rattle.cts_entry.specs.declared.event.Event.TheVariants.{Finish, Opens, SetTime}
use Rattle.cts_entry.specs.declared.why.Why.TheVariants.{PeerEnded}
use Rattle.cts_log.specs.Files.{flagged_of, kind_of, layout_of}
use Rattle.cts_log.specs.Logged.{Logged, entry_bytes}
use Rattle.cts_log.specs.Reading.{IsLogRead}
use Rattle.cts_log.specs.declared.kind.LogKind.{LogKind}
use Rattle.cts_log.specs.declared.kind.LogKind.TheVariants.{Tlm, Cmd}
use Rattle.cts_play.specs.Pieces.{ArePieces}
use Rattle.cts_play.specs.Played.{played}
use Rattle.cts_play_laws.specs.Files.{HaveRoom, IsLogOf}
use Rattle.cts_play_laws.specs.Handing.{handed_history}
use Rattle.cts_play_laws.specs.Plays.{logged_packets}
use Rattle.cts_play_laws.specs.Values.{IsOfLogged, SaySame}
use Rattle.cts_proto.specs.Meaning.{Meaning}
use Rattle.cts_run.specs.Acts.{Act, AreDone, DoesAll, Outside, PutFails, puts, text_of}
use Rattle.cts_run.specs.Causes.{undone_halt}
use Rattle.cts_run.specs.Dump.{dump_answer}
use Rattle.cts_run.specs.Extract.{columns_phase}
use Rattle.cts_run.specs.Lines.{end_line}
use Rattle.cts_run.specs.Load.{bytes_of, site_asked, site_phases}
use Rattle.cts_run.specs.Phases.{Phase, asking}
use Rattle.cts_run.specs.Start.{shelf_phase}
use Rattle.cts_run.specs.Story.{Stands, StoryData}
use Rattle.cts_run.specs.Transcript.{event_text, transcript}
use Rattle.cts_run.specs.declared.halt.Halt.{Halt}
use Rattle.cts_run.specs.declared.halt.Halt.TheVariants as halt
use Rattle.cts_run.specs.declared.putting.Undone.{Undone}
use Rattle.cts_table.specs.Keeping.{rules_of}

-- ---- the phases

-- a file is refused at its beginning that does not begin with the head of a log of packets
abbrev pub packets_halt : Option LogKind → Option Halt
packets_halt None = Some (halt.LogRefused 0)
packets_halt (Some Tlm) = None
packets_halt (Some Cmd) = Some (halt.LogRefused 0)

abbrev pub packets_phase : List ℕ → Phase
packets_phase file = asking (packets_halt (kind_of file))

-- the log is read, and then its head is looked at
abbrev pub log_phases : (List ℕ → Option (List ℕ)) → List ℕ → List Phase
log_phases files log = columns_phase files log ∷ packets_phase (bytes_of (files log)) ∷ []

-- the box of the chain that plays a log, which is the same for both layouts, and then the log
abbrev pub play_phases_of : List Meaning → (List ℕ → Option (List ℕ)) → SiteData → List ℕ → List Phase
play_phases_of stock files site log = shelf_phase stock (played 2 site) ∷ log_phases files log

-- definitions and the site before that
abbrev pub play_phases : List Meaning → (List ℕ → Option (List ℕ)) → List ℕ → List ℕ → List ℕ → List Phase
play_phases stock files definitions site log = site_phases files definitions site ++ play_phases_of stock files (site_asked files definitions site) log

-- ---- the events

-- The events of some entries of a log, one after another: each entry as it is laid out there, as pieces of at most 65,536 bytes of the
-- interface that plays it.
abbrev pub AreEvents : Bool → List Logged → List Event → Type 0
AreEvents flagged [] events = events ≡ []
AreEvents flagged (e ∷ es) events =
    (own : List Event) × (later : List Event) × ArePieces 0 65536 (entry_bytes flagged e) own × AreEvents flagged es later × (events ≡ own ++ later)

-- a time to which a clock can be set, where none later is known
abbrev pub time_or : Time → List Time → List Time
time_or t [] = if nat_lt t.micros 1000000 then t ∷ [] else []
time_or t (later ∷ times) = later ∷ times

-- the time of the last entry that has such a one, if there is one
abbrev pub last_time : List Logged → List Time
last_time [] = []
last_time (e ∷ es) = time_or e.heading.time (last_time es)

-- the last such time of some, with one more
abbrev pub later_time : Option Time → Time → Option Time
later_time last t = if nat_lt t.micros 1000000 then Some t else last

-- the clock is set, and the peer has ended
abbrev pub closing_events : List Time → List Event
closing_events times = map SetTime times ++ Finish 0 PeerEnded ∷ []

-- that comes where the log is whole
abbrev pub last_events : Bool → List Time → List Event
last_events false times = []
last_events true times = closing_events times

-- the connection is opened, its pieces come, and where the log is whole it ends
abbrev pub play_run : Bool → List Time → List Event → List Event
play_run whole times events = Opens 0 ∷ (events ++ last_events whole times)

-- ---- what is put, and how it ends

-- the puts of what events did after a history: the text of each, in one piece
abbrev pub text_acts : SiteData → List Entry → List Did → List Act
text_acts site history [] = []
text_acts site history (did ∷ dids) = puts (event_text site history did) ++ text_acts site (history ++ did.entries) dids

-- where the log is whole, the number of entries
abbrev pub number_acts : Bool → List Did → List Act
number_acts false dids = []
number_acts true dids = puts (end_line (length (history_of dids)))

-- it is put also where the chain has failed and what came after it was not played
abbrev pub end_acts : Bool → List Did → Ending → List Act
end_acts whole dids Finished = number_acts whole dids
end_acts whole dids NotEnabled = number_acts whole dids
end_acts whole dids HistoryFull = []

abbrev pub play_acts : SiteData → Bool → List Did → Ending → List Act
play_acts site whole dids ending = text_acts site [] dids ++ end_acts whole dids ending

-- the end of the file is due, where the history did not get full
abbrev pub play_answer : Result (Unit {0}) Halt → List Did → Ending → Result (Unit {0}) Halt
play_answer due dids Finished = due
play_answer due dids NotEnabled = due
play_answer due dids HistoryFull = Err (halt.HistoryFull (entries_in (history_of dids)) (bytes_in (history_of dids)))

-- the played history has between its Opened and its Closed exactly these packets
abbrev pub IsPlayedHistory : Bool → List Time → List Entry → List Entry → Type 0
IsPlayedHistory flagged times packets history = history ≡ handed_history flagged 0 times packets 0

-- The played log: the run of its whole entries in the site that plays it, event by event. Where the file is the log of packets of a history
-- of this site, and there is room for them, all is done, and the played history has between its Opened and its Closed exactly the packets of
-- logged interfaces, in order, with their times, idents and bytes, and with their stored flags where entries have flags. Where every interface
-- is logged, the stored flags are carried, and nobody injects or sets anything, it says the same as the history that was logged.
pub record IsPlayed (site : SiteData) (file : List ℕ) (acts : List Act) (due : Result (Unit {0}) Halt) : Type 0 where
  pub flagged : Bool
  pub entries : List Logged
  pub place : ℕ
  pub read : IsLogRead file Tlm flagged entries place
  pub events : List Event
  pub events_are : AreEvents flagged entries events
  pub dids : List Did
  pub ending : Ending
  pub runs : Runs (site_environment (played (layout_of flagged) site)) opening (play_run (nat_eq place (length file)) (last_time entries) events) dids ending
  pub acts_are : acts ≡ play_acts (played (layout_of flagged) site) (nat_eq place (length file)) dids ending
  pub text : text_of acts ≡ transcript (played (layout_of flagged) site) [] dids ++ text_of (end_acts (nat_eq place (length file)) dids ending)
  pub legal : IsLegal (rules_of (basis_of (played (layout_of flagged) site))) (history_of dids)
  pub ends : (history : List Entry) → IsLogOf (layout_of flagged) site history file → HaveRoom (logged_packets site history) → ending ≡ Finished
  pub again : (history : List Entry) → IsLogOf (layout_of flagged) site history file → ending ≡ Finished
      → IsPlayedHistory flagged (last_time entries) (logged_packets site history) (history_of dids)
  pub same : (history : List Entry) → IsLogOf (layout_of flagged) site history file → ending ≡ Finished
      → AllByRecursion (λ (e : Entry). IsOfLogged flagged (is_logged site) e.by e.what) history → SaySame site history (history_of dids)
  pub due_is : due ≡ play_answer (dump_answer place (length file)) dids ending

-- A file that is no log of packets has nothing put, and is refused at its beginning.
pub record IsNoPlay (file : List ℕ) (acts : List Act) (due : Result (Unit {0}) Halt) : Type 0 where
  pub none : packets_halt (kind_of file) ≡ Some (halt.LogRefused 0)
  pub nothing : acts ≡ []
  pub refused : due ≡ Err (halt.LogRefused 0)

abbrev pub IsPlay : SiteData → List ℕ → List Act → Result (Unit {0}) Halt → Type 0
IsPlay site file acts due = IsPlayed site file acts due ⊎ IsNoPlay file acts due

-- ---- how far it has come

-- So many events were done. Whatever events come later, the run of all of them goes on from here; or, where the connection is over, it has
-- ended here.
abbrev pub RunsOn : SiteData → Bool → State → List Did → List Event → Type 0
RunsOn site false s prior events = (later : List Event) (dids : List Did) (ending : Ending) → Runs (site_environment site) s later dids ending
    → Runs (site_environment site) opening (events ++ later) (prior ++ dids) ending
RunsOn site true s prior events = (later : List Event) → Runs (site_environment site) opening (events ++ later) prior NotEnabled

-- These events came, and what they did was put.
pub record IsPlaying (site : SiteData) (events : List Event) (over : Bool) (w : StoryData) (old new : Outside) : Type 0 where
  pub state : State
  pub prior : List Did
  pub stands : Stands site state w
  pub history : state.history ≡ history_of prior
  pub runs : RunsOn site over state prior events
  pub done : AreDone (text_acts site [] prior) old new

-- These events came, and one of them halts the playback: a put failed, memory ran out or the history is full.
abbrev pub Stops : SiteData → List Event → Halt → Outside → Outside → Type 0
Stops site events halt.WriteFault old new = (later : List Event) → (dids : List Did) × (ending : Ending)
    × Runs (site_environment site) opening (events ++ later) dids ending × PutFails (text_acts site [] dids) old new
Stops site events halt.Memory old new = (later : List Event) → (dids : List Did) × (ending : Ending)
    × Runs (site_environment site) opening (events ++ later) dids ending × (n : ℕ) × AreDone (take n (text_acts site [] dids)) old new
Stops site events (halt.HistoryFull entries bytes) old new = (later : List Event) → (dids : List Did)
    × Runs (site_environment site) opening (events ++ later) dids HistoryFull
    × (halt.HistoryFull entries bytes ≡ halt.HistoryFull (entries_in (history_of dids)) (bytes_in (history_of dids))) × AreDone (text_acts site [] dids) old new
Stops site events halt old new = ⊥

-- These events came, and whether the connection is over; or the playback halts at one of them.
abbrev pub Plays : SiteData → List Event → Result Bool Halt → StoryData → Outside → Outside → Type 0
Plays site events (Ok over) w old new = IsPlaying site events over w old new
Plays site events (Err halt) w old new = Stops site events halt old new

-- what is answered where a text was put or not, and where an event was not done: one that is not enabled finds the connection over
abbrev pub put_over : Result (Unit {0}) Undone → Result Bool Halt
put_over (Ok done) = Ok false
put_over (Err why) = Err (undone_halt why)

abbrev pub fault_over : WorldFault → Result Bool Halt
fault_over fault.NotEnabled = Ok true
fault_over (fault.Full entries bytes) = Err (halt.HistoryFull entries bytes)
fault_over fault.Memory = Err halt.Memory

-- The events of one more entry came.
pub record PlaysEntry (flagged : Bool) (e : Logged) (site : SiteData) (events : List Event) (answer : Result Bool Halt) (w : StoryData)
    (old new : Outside) : Type 0 where
  pub own : List Event
  pub own_are : ArePieces 0 65536 (entry_bytes flagged e) own
  pub plays : Plays site (events ++ own) answer w old new

-- The clock was set, the peer has ended, and the number of entries was put.
pub record PlaysEnd (site : SiteData) (events : List Event) (times : List Time) (answer : Result (Unit {0}) Halt) (old new : Outside) : Type 0 where
  pub dids : List Did
  pub ending : Ending
  pub runs : Runs (site_environment site) opening (events ++ closing_events times) dids ending
  pub does : DoesAll (play_acts site true dids ending) (play_answer (Ok tt) dids ending) answer old new

-- A log was played in this site, up to its end or up to where it has no whole entry.
pub record PlaysLog (site : SiteData) (file : List ℕ) (answer : Result (Unit {0}) Halt) (old new : Outside) : Type 0 where
  pub kind : LogKind
  pub entries : List Logged
  pub place : ℕ
  pub read : IsLogRead file kind (flagged_of file) entries place
  pub events : List Event
  pub events_are : AreEvents (flagged_of file) entries events
  pub whole : Bool
  pub whole_is : nat_eq place (length file) ≡ whole
  pub dids : List Did
  pub ending : Ending
  pub runs : Runs (site_environment site) opening (play_run whole (last_time entries) events) dids ending
  pub does : DoesAll (play_acts site whole dids ending) (play_answer (dump_answer place (length file)) dids ending) answer old new
