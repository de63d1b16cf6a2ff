-- A rehearsal: a run of the events that are made from a number, in the demo's site, and the summary that is put of it.
use Rattle.std.specs.Prelude.{◌≡◌, ℕ, ◌+◌, ◌<◌, ◌^◌, nat_eq, Bool, true, false, List, [], ◌++◌, length, codes, Option, Some, None, ◌⊎◌, Result, Ok, Err}
use Rattle.std.specs.List.{filter, starts_with}
use Rattle.cts_core.specs.Environments.{site_environment}
use Rattle.cts_core.specs.Runs.{Did, Ending, Finished, NotEnabled, HistoryFull, Runs}
use Rattle.cts_core.specs.States.{State, opening, packets_log}
use Rattle.cts_core_laws.specs.Told.{history_of}
use Rattle.cts_def.specs.Sites.{SiteData}
use Rattle.cts_entry.specs.Histories.{entries_in, bytes_in}
use Rattle.cts_entry.specs.declared.entry.Entry.{Entry}
use Rattle.cts_entry.specs.declared.event.Effect.{Effect}
use Rattle.cts_entry.specs.declared.event.Effect.TheVariants.{Posted, Reply, Written, Logged, Routed}
use Rattle.cts_entry.specs.declared.event.Event.{Event}
use Rattle.cts_entry.specs.declared.what.What.{What}
use Rattle.cts_entry.specs.declared.what.What.TheVariants.{Opened, Packet, Closed, Command, SetLimits, Enable, LimitsSetIs, Injected, Unrouted, Stop, Ended}
use Rattle.cts_rehearsal.specs.Generated.{generated}
use Rattle.cts_rehearsal.specs.Summaries.{summary_text}
use Rattle.cts_rehearsal.specs.declared.tally.Tally.{Tally}
use Rattle.cts_rehearsal.specs.Walks.{Walks}
use Rattle.cts_run.specs.Acts.{Act, DoesAll, Outside, puts}
use Rattle.cts_run.specs.Replay.{not_enabled}
use Rattle.cts_run.specs.Story.{Stands, StoryData}
use Rattle.cts_run.specs.declared.halt.Halt.{Halt}
use Rattle.cts_run.specs.declared.halt.Halt.TheVariants as halt
use Rattle.cts_monitor.specs.Events.{events}

-- ---- what is counted

abbrev pub says_packet : What → Bool
says_packet Opened = false
says_packet (Packet ident stored bytes) = true
says_packet (Closed why loss unposted unsent) = false
says_packet (Command interface command bytes) = false
says_packet (SetLimits enabled packet item persistence set limits) = false
says_packet (Enable packet item enabled) = false
says_packet (LimitsSetIs set) = false
says_packet (Injected packet bytes) = false
says_packet (Unrouted why bytes) = false
says_packet Stop = false
says_packet Ended = false

abbrev pub says_command : What → Bool
says_command Opened = false
says_command (Packet ident stored bytes) = false
says_command (Closed why loss unposted unsent) = false
says_command (Command interface command bytes) = true
says_command (SetLimits enabled packet item persistence set limits) = false
says_command (Enable packet item enabled) = false
says_command (LimitsSetIs set) = false
says_command (Injected packet bytes) = false
says_command (Unrouted why bytes) = false
says_command Stop = false
says_command Ended = false

-- the packets and the commands of a history
abbrev pub is_packet : Entry → Bool
is_packet e = says_packet e.what

abbrev pub is_command : Entry → Bool
is_command e = says_command e.what

-- how a response begins that refuses a command: the members of an error stand in the order of their names, the code first
abbrev pub refused_front : List ℕ
refused_front = codes "{\"error\":{\"code\":-32002,"

abbrev pub text_refuses : Option (List ℕ) → Bool
text_refuses None = false
text_refuses (Some text) = starts_with nat_eq text refused_front

-- an event gave a reply that refuses
abbrev pub is_refusal : Effect → Bool
is_refusal Posted = false
is_refusal (Reply desk front text) = text_refuses text
is_refusal (Written interface bytes) = false
is_refusal (Logged tlm cmd) = false
is_refusal (Routed slot bytes) = false

abbrev pub ones : Bool → ℕ
ones true = 1
ones false = 0

-- the replies among what events did that refuse
abbrev pub refusals_in : List Did → ℕ
refusals_in dids = length (filter (λ d. is_refusal d.effect) dids)

-- ---- the summary

-- of what events did: packets, commands, refused replies, and the log of packets of the whole history
abbrev pub tally_of : SiteData → List Did → Tally
tally_of site dids = record {
  packets = length (filter is_packet (history_of dids));
  commands = length (filter is_command (history_of dids));
  refused = refusals_in dids;
  log = packets_log (site_environment site) (history_of dids);
}

abbrev pub rehearsal_text : SiteData → List Did → List ℕ
rehearsal_text site dids = summary_text (length (history_of dids)) (length (events site (history_of dids))) (tally_of site dids)

-- ---- a rehearsal

-- its name, by which a refusal would tell of it
abbrev pub rehearsal_name : List ℕ
rehearsal_name = codes "rehearsal"

-- its one act: where all events were done the summary is put
abbrev pub rehearsal_acts : SiteData → List Did → Ending → List Act
rehearsal_acts site dids Finished = puts (rehearsal_text site dids)
rehearsal_acts site dids NotEnabled = []
rehearsal_acts site dids HistoryFull = []

-- how it ends: an event that is refused is no line of a file
abbrev pub rehearsal_answer : List Did → Ending → Result (Unit {0}) Halt
rehearsal_answer dids Finished = Ok tt
rehearsal_answer dids NotEnabled = Err (not_enabled rehearsal_name 0)
rehearsal_answer dids HistoryFull = Err (halt.HistoryFull (entries_in (history_of dids)) (bytes_in (history_of dids)))

-- Its acts and how it ends: those of the run of the events that are made from a number.
pub record IsRehearsal (site : SiteData) (n : ℕ) (acts : List Act) (due : Result (Unit {0}) Halt) : Type 0 where
  pub dids : List Did
  pub ending : Ending
  pub runs : Runs (site_environment site) opening (generated n) dids ending
  pub acts_are : acts ≡ rehearsal_acts site dids ending
  pub due_is : due ≡ rehearsal_answer dids ending

-- ---- what it does

-- Some events of a rehearsal were done, of whose replies a number refuse, and these are left. None of the events gives the logs anything.
pub record IsFar (site : SiteData) (n : ℕ) (left : List Event) (refused : ℕ) (story : StoryData) : Type 0 where
  pub state : State
  pub prior : List Did
  pub goes : Stands site state story
  pub history : state.history ≡ history_of prior
  pub runs : (dids : List Did) (ending : Ending) → Runs (site_environment site) state left dids ending → Runs (site_environment site) opening
      (generated n) (prior ++ dids) ending
  pub refusals : refused ≡ refusals_in prior
  pub count : length prior + length left ≡ length (generated n)
  pub few : length (generated n) < 2 ^ 34
  pub connected : ℕ → Bool
  pub request : Option (List ℕ)
  pub walks : Walks connected request left
  pub undrained : state.log_cursor ≡ 0

-- This is the summary of all events that are made from a number.
abbrev pub IsSummary : SiteData → ℕ → List ℕ → Type 0
IsSummary site n text = (dids : List Did) × Runs (site_environment site) opening (generated n) dids Finished × (text ≡ rehearsal_text site dids)

-- A rehearsal halts so: memory ran out, or an event is refused.
abbrev pub Halts : SiteData → ℕ → Halt → Type 0
Halts site n why = (why ≡ halt.Memory) ⊎ ((dids : List Did) × (ending : Ending) × Runs (site_environment site) opening (generated n) dids ending
    × (rehearsal_answer dids ending ≡ Err why))

-- Events were done after which these are left, or it halts.
abbrev pub GoesOn : SiteData → ℕ → List Event → Result ℕ Halt → StoryData → Type 0
GoesOn site n left (Ok refused) story = IsFar site n left refused story
GoesOn site n left (Err why) story = Halts site n why

-- The events that are made from a number were done, and the summary was put.
pub record Rehearses (site : SiteData) (n : ℕ) (answer : Result (Unit {0}) Halt) (old new : Outside) : Type 0 where
  pub dids : List Did
  pub ending : Ending
  pub runs : Runs (site_environment site) opening (generated n) dids ending
  pub does : DoesAll (rehearsal_acts site dids ending) (rehearsal_answer dids ending) answer old new
