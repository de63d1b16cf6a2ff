-- A hub: what a router of one site puts, as the bytes of an interface of another. What is tied, in which order words and sites are refused,
-- and what is put of the world below.
use Rattle.std.specs.Prelude.{◌≡◌, ℕ, nat_le, nat_lt, ◌&&◌, Bool, true, false, List, [], ◌∷◌, ◌++◌, map, slice_get, slice_index, Option, Some, None, option_map}
use Rattle.std.specs.Prelude.{Result, Ok, Err, ℤ, pos, negsuc, is_some, unwrap_or, if◌then◌else◌}
use Rattle.std.specs.List.{flat_map}
use Rattle.cts_base.specs.Wholes.{whole_of}
use Rattle.cts_chain.specs.Builds.{all_uses}
use Rattle.cts_connection.specs.LineChains.{twice}
use Rattle.cts_core.specs.Endings.{held_in}
use Rattle.cts_core.specs.Environments.{basis_of, site_environment}
use Rattle.cts_core.specs.Runs.{Did, Does, Ending, Finished, NotEnabled, HistoryFull, Refuses, Runs, after}
use Rattle.cts_core.specs.States.{State, opening}
use Rattle.cts_core_laws.specs.Told.{Line, history_of, put_for, told, told_from}
use Rattle.cts_def.specs.Makers.{router_of}
use Rattle.cts_def.specs.Protocols.{PreidentifiedData, UseData}
use Rattle.cts_def.specs.Sites.{InterfaceData, IsSoundSite, RouterData, SiteData}
use Rattle.cts_entry.specs.Histories.{bytes_in, connects_maker, entries_in, latest}
use Rattle.cts_entry.specs.Legal.{IsLegal}
use Rattle.cts_entry.specs.Workers.{is_slot}
use Rattle.cts_entry.specs.declared.event.Effect.{Effect}
use Rattle.cts_entry.specs.declared.event.Event.{Event}
use Rattle.cts_entry.specs.declared.event.Event.TheVariants.{Finish, Opens}
use Rattle.cts_entry.specs.declared.why.Why.TheVariants.{PeerEnded}
use Rattle.cts_hub.specs.Ties.{chains_fit, missing_target}
use Rattle.cts_play.specs.Pieces.{ArePieces}
use Rattle.cts_play_laws.specs.Hubs.{AreTied, HandsOn, HaveShortTimes}
use Rattle.cts_play_laws.specs.Keeping.{HaveStages}
use Rattle.cts_play_laws.specs.Putting.{last_put}
use Rattle.cts_proto.specs.Meaning.{Meaning}
use Rattle.cts_run.specs.Acts.{Act, DoesAll, Outside, text_of}
use Rattle.cts_run.specs.Load.{definitions_asked, script_phase, site_asked, site_phase, site_phases}
use Rattle.cts_run.specs.Phases.{Phase, asking}
use Rattle.cts_run.specs.Play.{end_acts, play_acts, play_answer}
use Rattle.cts_run.specs.Replay.{next_line, not_enabled, replay_answer}
use Rattle.cts_run.specs.Start.{shelf_phase}
use Rattle.cts_run.specs.Story.{Stands, StoryData}
use Rattle.cts_run.specs.Tie.{TieData}
use Rattle.cts_run.specs.Transcript.{events_of, transcript}
use Rattle.cts_run.specs.declared.halt.Halt.{Halt}
use Rattle.cts_run.specs.declared.halt.Halt.TheVariants as halt
use Rattle.cts_run.specs.declared.halt.hub_cause.HubCause.{HubCause}
use Rattle.cts_run.specs.declared.halt.hub_cause.HubCause.TheVariants as hub
use Rattle.cts_run.specs.declared.hub.ends.Ends.{Ends}
use Rattle.cts_scriptread.specs.Makers.{interface_named, slot_named}
use Rattle.cts_table.specs.Keeping.{rules_of}

-- ---- what the words name

abbrev pub most_cut : ℕ
most_cut = 65536

abbrev pub up_to_cut : Option ℤ → Option ℕ
up_to_cut None = None
up_to_cut (Some (pos n)) = if nat_le 1 n && nat_le n most_cut then Some n else None
up_to_cut (Some (negsuc n)) = None

-- the size of pieces that a word writes: 1 to 65,536, where the first digit is not 0
unfoldable pub cut_number : List ℕ → Option ℕ
cut_number word =
    if nat_lt (slice_index word 0) 49 then None
    else if nat_lt 57 (slice_index word 0) then None else up_to_cut (whole_of word)

-- the slot of the site above, the interface of the site below and the size of pieces that are named, if all three are
abbrev pub ends_by : Option ℕ → Option ℕ → Option ℕ → Option Ends
ends_by None interface cut = None
ends_by (Some slot) None cut = None
ends_by (Some slot) (Some interface) None = None
ends_by (Some slot) (Some interface) (Some cut) = Some (record { slot = slot; interface = interface; cut = cut })

abbrev pub ends_of : SiteData → SiteData → TieData → Option Ends
ends_of above below tie = ends_by (slot_named above tie.who) (interface_named below tie.name) (cut_number tie.cut)

-- ---- why they can't be tied

abbrev pub target_cause : Option (List ℕ) → Option HubCause
target_cause None = None
target_cause (Some name) = Some hub.Target

abbrev pub cause_by : SiteData → Option RouterData → Option InterfaceData → Option HubCause
cause_by above None i = None
cause_by above (Some r) None = None
cause_by above (Some r) (Some i) = if chains_fit r.chain i.chain then target_cause (missing_target above r i) else Some hub.Chain

-- the chains do not fit; or else the interface has not all targets of the interfaces that are routed. The definitions of both sites are the same.
abbrev pub tie_cause : SiteData → SiteData → Ends → Option HubCause
tie_cause above below ends = cause_by above (slice_get above.routers (router_of ends.slot)) (slice_get below.interfaces ends.interface)

-- ---- the phases

abbrev pub names_halt : Option Ends → Option Halt
names_halt None = Some halt.Misused
names_halt (Some ends) = None

abbrev pub tie_halt : SiteData → SiteData → Option Ends → Option Halt
tie_halt above below None = None
tie_halt above below (Some ends) = option_map halt.HubRefused (tie_cause above below ends)

-- both sites, over the same definitions
abbrev pub pair_phases : (List ℕ → Option (List ℕ)) → List ℕ → List ℕ → List ℕ → List Phase
pair_phases files definitions site below = site_phases files definitions site ++ site_phase files (definitions_asked files definitions) below ∷ []

-- the words, and then the tie
abbrev pub tie_phases : SiteData → SiteData → TieData → List Phase
tie_phases above below tie = asking (names_halt (ends_of above below tie)) ∷ asking (tie_halt above below (ends_of above below tie)) ∷ []

-- both sites as one, for what their worlds take together
abbrev pub joint : SiteData → SiteData → SiteData
joint above below = record above { interfaces = above.interfaces ++ below.interfaces; routers = above.routers ++ below.routers }

-- the uses of the chains of routers, of which each has one for either of its slots
abbrev pub router_uses : List RouterData → List UseData
router_uses routers = all_uses (flat_map twice (map (λ (r : RouterData). r.chain) routers))

-- the boxes of both worlds, and then the script
abbrev pub world_phases : List Meaning → (List ℕ → Option (List ℕ)) → SiteData → SiteData → List ℕ → List Phase
world_phases stock files above below script = shelf_phase stock (joint above below) ∷ script_phase files above script ∷ []

-- of two sites
abbrev pub hub_phases_of : List Meaning → (List ℕ → Option (List ℕ)) → SiteData → SiteData → List ℕ → TieData → List Phase
hub_phases_of stock files above below script tie = tie_phases above below tie ++ world_phases stock files above below script

abbrev pub hub_phases : List Meaning → (List ℕ → Option (List ℕ)) → List ℕ → List ℕ → List ℕ → List ℕ → TieData → List Phase
hub_phases stock files definitions site script below tie =
    pair_phases files definitions site below
    ++ hub_phases_of stock files (site_asked files definitions site) (site_asked files definitions below) script tie

-- those up to the making of the worlds
abbrev pub tied_phases : List Meaning → (List ℕ → Option (List ℕ)) → List ℕ → List ℕ → List ℕ → TieData → List Phase
tied_phases stock files definitions site below tie =
    pair_phases files definitions site below
    ++ (tie_phases (site_asked files definitions site) (site_asked files definitions below) tie
    ++ shelf_phase stock (joint (site_asked files definitions site) (site_asked files definitions below)) ∷ [])

-- ---- what the laws of hubs want

-- Of both sites: what the slot writes is what the interface reads, over the same definitions, and it has all targets.
pub record IsTied (above below : SiteData) (ends : Ends) : Type 0 where
  pub sound : IsSoundSite above
  pub heads : PreidentifiedData
  pub tied : AreTied heads above ends.slot below ends.interface
  pub slot : is_slot above ends.slot ≡ true
  pub stages : HaveStages above

-- Of the runs of the script: the times of their histories have 32 bits.
abbrev pub HasShortTimes : SiteData → List (ℕ × Event) → Type 0
HasShortTimes above events = (dids : List Did) (ending : Ending)
    → Runs (site_environment above) opening (events_of events) dids ending → HaveShortTimes (history_of dids)

pub record HubKeeps (above below : SiteData) (ends : Ends) (events : List (ℕ × Event)) : Type 0 where
  pub tied : IsTied above below ends
  pub times : HasShortTimes above events

-- ---- what is done

-- The connection below is opened, its pieces come, and the peer ends.
abbrev pub below_run : ℕ → List Event → List Event
below_run interface pieces = Opens interface ∷ (pieces ++ Finish interface PeerEnded ∷ [])

-- The bytes that the slot put on its last connection, as pieces of the interface below, and what they do in the world below, event by event.
-- What the laws of hubs want of sites and script is so wherever such a command did all. Then all events below are done, and the history below has,
-- between its Opened and its Closed, exactly the packets of the routed interfaces that stand whole in these bytes, from directly after
-- one of the slot's Opened on, with their times, idents and bytes, and in layout 4 their stored flags; and its Closed counts as held exactly
-- the bytes after them.
pub record IsBelow (above below : SiteData) (ends : Ends) (events : List (ℕ × Event)) (dids : List Did) (acts : List Act) (due : Result (Unit {0}) Halt)
    : Type 0 where
  pub pieces : List Event
  pub pieces_are : ArePieces ends.interface ends.cut (last_put (told ends.slot (events_of events) dids)) pieces
  pub below_dids : List Did
  pub ending : Ending
  pub runs : Runs (site_environment below) opening (below_run ends.interface pieces) below_dids ending
  pub acts_are : acts ≡ play_acts below true below_dids ending
  pub text : text_of acts ≡ transcript below [] below_dids ++ text_of (end_acts true below_dids ending)
  pub legal : IsLegal (rules_of (basis_of below)) (history_of below_dids)
  pub finished : HubKeeps above below ends events → ending ≡ Finished
  pub hands : (keeps : HubKeeps above below ends events)
      → HandsOn keeps.tied.heads above ends.slot ends.interface (history_of dids) (last_put (told ends.slot (events_of events) dids)) (history_of below_dids)
  pub due_is : due ≡ play_answer (Ok tt) below_dids ending

-- The world below comes after all events of the script; else nothing is put.
abbrev pub GoesBelow : SiteData → SiteData → Ends → List ℕ → List (ℕ × Event) → List Did → Ending → List Act → Result (Unit {0}) Halt → Type 0
GoesBelow above below ends script events dids Finished acts due = IsBelow above below ends events dids acts due
GoesBelow above below ends script events dids NotEnabled acts due = (acts ≡ []) × (due ≡ replay_answer script events dids NotEnabled)
GoesBelow above below ends script events dids HistoryFull acts due = (acts ≡ []) × (due ≡ replay_answer script events dids HistoryFull)

-- Its acts and how it ends: those of the run of the script's events above, of which nothing is put, and of the world below after it.
pub record IsHub (above below : SiteData) (script : List ℕ) (events : List (ℕ × Event)) (ends : Ends) (acts : List Act) (due : Result (Unit {0}) Halt)
    : Type 0 where
  pub dids : List Did
  pub ending : Ending
  pub runs : Runs (site_environment above) opening (events_of events) dids ending
  pub goes : GoesBelow above below ends script events dids ending acts due

-- where the words name nothing, nothing is done
abbrev pub IsHubOf : SiteData → SiteData → List ℕ → List (ℕ × Event) → Option Ends → List Act → Result (Unit {0}) Halt → Type 0
IsHubOf above below script events None acts due = (acts ≡ []) × (due ≡ Err halt.Misused)
IsHubOf above below script events (Some ends) acts due = IsHub above below script events ends acts due

-- ---- what is known of it

-- the history above gets full
abbrev pub FillsAbove : SiteData → List (ℕ × Event) → Type 0
FillsAbove above events = (dids : List Did) (ending : Ending) → Runs (site_environment above) opening (events_of events) dids ending → ending ≡ HistoryFull

-- Where all is done, sites and script are as the laws want them. A full history is that of the world above.
abbrev pub HubKept : SiteData → SiteData → List (ℕ × Event) → Ends → Result (Unit {0}) Halt → Type 0
HubKept above below events ends (Ok done) = HubKeeps above below ends events
HubKept above below events ends (Err (halt.HistoryFull entries bytes)) = FillsAbove above events
HubKept above below events ends (Err other) = Unit {0}

abbrev pub HubKeptOf : SiteData → SiteData → List (ℕ × Event) → Option Ends → Result (Unit {0}) Halt → Type 0
HubKeptOf above below events None answer = Unit {0}
HubKeptOf above below events (Some ends) answer = HubKept above below events ends answer

-- ---- how far the run above has come

-- the bytes that are kept while a slot's connection stands, after an event
abbrev pub put_while : Bool → ℕ → Effect → List ℕ
put_while true slot effect = put_for slot effect
put_while false slot effect = []

-- a connection that is opened has none, and one that has ended keeps its own
abbrev pub held_after : Option Bool → List ℕ → List ℕ
held_after None held = held
held_after (Some true) held = []
held_after (Some false) held = held

-- The slot's last connection has these bytes, and stands or not, after the events before those that are left.
pub record IsHeard (site : SiteData) (slot : ℕ) (all left : List (ℕ × Event)) (live : Bool) (held : List ℕ) (story : StoryData) : Type 0 where
  pub state : State
  pub prior : List Did
  pub stands : Stands site state story
  pub history : state.history ≡ history_of prior
  pub runs : (dids : List Did) (ending : Ending) → Runs (site_environment site) state (events_of left) dids ending
      → Runs (site_environment site) opening (events_of all) (prior ++ dids) ending
  pub lines : (dids : List Did) → next_line (prior ++ dids) all ≡ next_line dids left
  pub line : Line
  pub tells : (dids : List Did) → told slot (events_of all) (prior ++ dids) ≡ told_from slot line (events_of left) dids
  pub live_is : is_some line.now ≡ live
  pub held_is : last_put line ≡ held

-- An event above was done, and the slot's connection has these bytes, and stands or not; or it was not done.
abbrev pub StepsAbove : SiteData → State → List ℕ → ℕ → Event → ℕ → Bool → List ℕ → Result Bool Halt → List ℕ → StoryData → Type 0
StepsAbove site s script line event slot live held (Ok now) later story =
    (did : Did) × Does (site_environment site) s event did × Stands site (after s event did) story
    × (now ≡ unwrap_or (latest (connects_maker slot) did.entries) live)
    × (later ≡ held_after (latest (connects_maker slot) did.entries) (held ++ put_while live slot did.effect))
StepsAbove site s script line event slot live held (Err (halt.Refused name kind at why)) later story =
    Refuses (site_environment site) s event NotEnabled × (halt.Refused name kind at why ≡ not_enabled script line)
StepsAbove site s script line event slot live held (Err (halt.HistoryFull entries bytes)) later story =
    Refuses (site_environment site) s event HistoryFull × (entries ≡ entries_in s.history) × (bytes ≡ bytes_in s.history)
StepsAbove site s script line event slot live held (Err halt.Memory) later story = Unit {0}
StepsAbove site s script line event slot live held (Err other) later story = ⊥

-- The events of a script were done above, and the slot's last connection has these bytes; or one of them halts the command.
abbrev pub RunsAbove : SiteData → List ℕ → ℕ → List (ℕ × Event) → Result (List ℕ) Halt → StoryData → Type 0
RunsAbove site script slot events (Ok bytes) story = (dids : List Did) × Runs (site_environment site) opening (events_of events) dids Finished
    × (bytes ≡ last_put (told slot (events_of events) dids)) × ((held_in story.world).history ≡ history_of dids)
RunsAbove site script slot events (Err halt.Memory) story = Unit {0}
RunsAbove site script slot events (Err why) story = (dids : List Did) × (ending : Ending) × Runs (site_environment site) opening (events_of events) dids ending
    × (replay_answer script events dids ending ≡ Err why)

-- ---- what was put

-- After these events the peer of an interface has ended, and the number of entries was put.
pub record EndsBelow (site : SiteData) (events : List Event) (interface : ℕ) (answer : Result (Unit {0}) Halt) (old new : Outside) : Type 0 where
  pub dids : List Did
  pub ending : Ending
  pub runs : Runs (site_environment site) opening (events ++ Finish interface PeerEnded ∷ []) dids ending
  pub does : DoesAll (play_acts site true dids ending) (play_answer (Ok tt) dids ending) answer old new

-- These pieces were brought to the interface below, its peer has ended, and the number of entries was put.
pub record BringsPieces (site : SiteData) (interface : ℕ) (pieces : List Event) (answer : Result (Unit {0}) Halt) (old new : Outside) : Type 0 where
  pub dids : List Did
  pub ending : Ending
  pub runs : Runs (site_environment site) opening (below_run interface pieces) dids ending
  pub does : DoesAll (play_acts site true dids ending) (play_answer (Ok tt) dids ending) answer old new

-- The same of bytes.
pub record BringsBytes (site : SiteData) (ends : Ends) (bytes : List ℕ) (answer : Result (Unit {0}) Halt) (old new : Outside) : Type 0 where
  pub pieces : List Event
  pub pieces_are : ArePieces ends.interface ends.cut bytes pieces
  pub brings : BringsPieces site ends.interface pieces answer old new
