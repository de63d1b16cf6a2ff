-- A replay: what it does event by event and as a whole, and how it ends.
use Rattle.std.specs.Prelude.{◌≡◌, ℕ, true, List, [], ◌∷◌, ◌++◌, length, take, drop, Result, Ok, Err}
use Rattle.cts_core.specs.Environments.{basis_of, site_environment}
use Rattle.cts_core.specs.Runs.{Did, Does, after, Ending, Finished, Refuses, NotEnabled, HistoryFull, Runs}
use Rattle.cts_core.specs.Sendings.{AreJudged}
use Rattle.cts_core.specs.States.{State, commands_log, is_line, log_ahead, opening, packets_log}
use Rattle.cts_core.specs.declared.fault.WorldFault.{WorldFault}
use Rattle.cts_core.specs.declared.fault.WorldFault.TheVariants as fault
use Rattle.cts_core_laws.specs.Logs.{drained_by}
use Rattle.cts_core_laws.specs.Told.{Told, history_of, told}
use Rattle.cts_def.specs.Sites.{SiteData}
use Rattle.cts_entry.specs.Histories.{entries_in, bytes_in}
use Rattle.cts_entry.specs.Legal.{IsLegal}
use Rattle.cts_entry.specs.declared.entry.Entry.{Entry}
use Rattle.cts_entry.specs.declared.event.Effect.{Effect}
use Rattle.cts_entry.specs.declared.event.Effect.TheVariants.{Posted, Reply, Written, Logged, Routed}
use Rattle.cts_entry.specs.declared.event.Event.{Event}
use Rattle.cts_framing.specs.Layouts.{has_flags}
use Rattle.cts_log.specs.Files.{log_head}
use Rattle.cts_log.specs.declared.kind.LogKind.{LogKind}
use Rattle.cts_log.specs.declared.kind.LogKind.TheVariants.{Tlm as Telemetry, Cmd as Commands}
use Rattle.cts_outside.specs.declared.vault.LogKind.TheVariants.{Tlm, Cmd}
use Rattle.cts_run.specs.Acts.{Act, AreDone, DoesAll, LogFails, Outside, PutFails, appends, logged_of, puts, syncs, text_of}
use Rattle.cts_run.specs.Lines.{end_line}
use Rattle.cts_run.specs.Story.{Stands, StoryData}
use Rattle.cts_run.specs.Transcript.{events_of, event_text, transcript}
use Rattle.cts_table.specs.Keeping.{rules_of}
use Rattle.cts_run.specs.declared.halt.Halt.{Halt}
use Rattle.cts_run.specs.declared.halt.Halt.TheVariants as halt
use Rattle.cts_run.specs.declared.halt.cause.Cause.TheVariants as cause
use Rattle.cts_run.specs.declared.halt.file_kind.FileKind.TheVariants.{Script}

-- ---- the acts of what events did

-- what is given to the logs is appended to both
abbrev pub log_acts : Effect → List Act
log_acts Posted = []
log_acts (Reply desk front text) = []
log_acts (Written interface bytes) = []
log_acts (Logged tlm cmd) = appends tlm cmd
log_acts (Routed slot bytes) = []

-- What is done of an event that did this after a history: the logs get what it gave them, and then its lines are put, in one piece.
abbrev pub event_acts : SiteData → List Entry → Did → List Act
event_acts site history did = log_acts did.effect ++ puts (event_text site history did)

abbrev pub did_acts : SiteData → List Entry → List Did → List Act
did_acts site history [] = []
did_acts site history (did ∷ dids) = event_acts site history did ++ did_acts site (history ++ did.entries) dids

-- the head of a log of this kind in the site's layout, with the digest of the definitions
abbrev pub head_for : SiteData → LogKind → List ℕ → List ℕ
head_for site kind digest = log_head kind (has_flags site.log_layout) digest

-- how the logs begin: with their heads
abbrev pub head_acts : SiteData → List ℕ → List Act
head_acts site digest = appends (head_for site Telemetry digest) (head_for site Commands digest)

-- the logs get what they have to have of these entries
abbrev pub rest_acts : SiteData → List Entry → List Act
rest_acts site entries = appends (packets_log (site_environment site) entries) (commands_log (site_environment site) entries)

-- What is done where the replay ends after events that did this: where all were done the logs get the rest of the history and are
-- synced, and then the number of entries is put.
abbrev pub last_acts : SiteData → List (ℕ × Event) → List Did → Ending → List Act
last_acts site events dids Finished = rest_acts site (drop (drained_by (events_of events) dids) (history_of dids))
    ++ (syncs ++ puts (end_line (length (history_of dids))))
last_acts site events dids NotEnabled = []
last_acts site events dids HistoryFull = []

-- all acts of a replay, by the digest of its definitions
abbrev pub replay_acts : List ℕ → SiteData → List (ℕ × Event) → List Did → Ending → List Act
replay_acts digest site events dids ending = head_acts site digest ++ (did_acts site [] dids ++ last_acts site events dids ending)

-- ---- what they put and append in all

-- what is put before the last line: the transcript, and where all was done the number of entries after it
abbrev pub replay_text : SiteData → List Did → Ending → List ℕ
replay_text site dids Finished = transcript site [] dids ++ end_line (length (history_of dids))
replay_text site dids NotEnabled = transcript site [] dids
replay_text site dids HistoryFull = transcript site [] dids

-- the entries that the logs get: those that were drained, and where all was done the whole history
abbrev pub kept_entries : List (ℕ × Event) → List Did → Ending → List Entry
kept_entries events dids Finished = history_of dids
kept_entries events dids NotEnabled = take (drained_by (events_of events) dids) (history_of dids)
kept_entries events dids HistoryFull = take (drained_by (events_of events) dids) (history_of dids)

-- ---- how it ends

-- the line of the event after those that were done
abbrev pub next_line : List Did → List (ℕ × Event) → ℕ
next_line [] [] = 0
next_line [] (event ∷ events) = event.0
next_line (did ∷ dids) [] = 0
next_line (did ∷ dids) (event ∷ events) = next_line dids events

-- the event of this line of a script is not enabled
abbrev pub not_enabled : List ℕ → ℕ → Halt
not_enabled script line = halt.Refused script Script line cause.NotEnabled

-- how a replay ends where the events did this and ended so
abbrev pub replay_answer : List ℕ → List (ℕ × Event) → List Did → Ending → Result (Unit {0}) Halt
replay_answer script events dids Finished = Ok tt
replay_answer script events dids NotEnabled = Err (not_enabled script (next_line dids events))
replay_answer script events dids HistoryFull = Err (halt.HistoryFull (entries_in (history_of dids)) (bytes_in (history_of dids)))

-- Its acts and how it ends: those of a run of the script's events, over definitions with this digest. It puts the transcript, and the logs
-- get what they have to have of the entries that were drained. Its history is legal; it says of each interface and slot what the events
-- told of its connections; and each of its commands is refused exactly where something stands against it.
pub record IsReplay (digest : List ℕ) (site : SiteData) (script : List ℕ) (events : List (ℕ × Event)) (acts : List Act)
    (due : Result (Unit {0}) Halt) : Type 0 where
  pub dids : List Did
  pub ending : Ending
  pub runs : Runs (site_environment site) opening (events_of events) dids ending
  pub acts_are : acts ≡ replay_acts digest site events dids ending
  pub text : text_of acts ≡ replay_text site dids ending
  pub packets : logged_of Tlm acts ≡ head_for site Telemetry digest ++ packets_log (site_environment site) (kept_entries events dids ending)
  pub commands : logged_of Cmd acts ≡ head_for site Commands digest ++ commands_log (site_environment site) (kept_entries events dids ending)
  pub legal : IsLegal (rules_of (basis_of site)) (history_of dids)
  pub lines : (m : ℕ) → is_line (site_environment site) m ≡ true → Told (site_environment site).routing m (history_of dids) (told m (events_of events) dids)
  pub judged : AreJudged site opening (events_of events) dids
  pub due_is : due ≡ replay_answer script events dids ending

-- ---- what it does

-- why a replay halts at the event of this line
abbrev pub event_halt : List ℕ → ℕ → WorldFault → Halt
event_halt script line fault.NotEnabled = not_enabled script line
event_halt script line (fault.Full entries bytes) = halt.HistoryFull entries bytes
event_halt script line fault.Memory = halt.Memory

-- An event of this line was done with its acts, or why not.
abbrev pub DoesEvent : SiteData → State → List ℕ → ℕ → Event → Result (Unit {0}) Halt → StoryData → Outside → Outside → Type 0
DoesEvent site s script line event (Ok done) story old new =
    (did : Did) × Does (site_environment site) s event did × Stands site (after s event did) story × AreDone (event_acts site s.history did) old new
DoesEvent site s script line event (Err halt.WriteFault) story old new =
    (did : Did) × Does (site_environment site) s event did × PutFails (event_acts site s.history did) old new
DoesEvent site s script line event (Err halt.LogFault) story old new =
    (did : Did) × Does (site_environment site) s event did × LogFails (event_acts site s.history did) old new
DoesEvent site s script line event (Err (halt.Refused name kind at why)) story old new =
    Refuses (site_environment site) s event NotEnabled × (halt.Refused name kind at why ≡ not_enabled script line) × (new ≡ old)
DoesEvent site s script line event (Err (halt.HistoryFull entries bytes)) story old new =
    Refuses (site_environment site) s event HistoryFull × (entries ≡ entries_in s.history) × (bytes ≡ bytes_in s.history) × (new ≡ old)
DoesEvent site s script line event (Err halt.Memory) story old new = new ≡ old
DoesEvent site s script line event (Err halt) story old new = ⊥

-- The events of a script were done, and the replay has ended after the heads of its logs.
pub record DoesEvents (site : SiteData) (script : List ℕ) (events : List (ℕ × Event)) (answer : Result (Unit {0}) Halt) (old new : Outside) : Type 0 where
  pub dids : List Did
  pub ending : Ending
  pub runs : Runs (site_environment site) opening (events_of events) dids ending
  pub does : DoesAll (did_acts site [] dids ++ last_acts site events dids ending) (replay_answer script events dids ending) answer old new

-- A replay has ended in this state, in which all events were done.
abbrev pub EndsAfter : SiteData → State → Result (Unit {0}) Halt → Outside → Outside → Type 0
EndsAfter site s answer old new = DoesAll (rest_acts site (log_ahead s) ++ (syncs ++ puts (end_line (length s.history)))) (Ok tt) answer old new

-- The events of a script were replayed, over definitions with this digest.
pub record Replays (digest : List ℕ) (site : SiteData) (script : List ℕ) (events : List (ℕ × Event)) (answer : Result (Unit {0}) Halt)
    (old new : Outside) : Type 0 where
  pub dids : List Did
  pub ending : Ending
  pub runs : Runs (site_environment site) opening (events_of events) dids ending
  pub does : DoesAll (replay_acts digest site events dids ending) (replay_answer script events dids ending) answer old new
