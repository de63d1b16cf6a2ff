-- What a command answers that hands on packets, and what it leaves of the shelf.
use Rattle.std.proofs.Common.{◌≡◌, ℕ, true, List, [], ◌∷◌, ◌++◌, Option, Some, None, IfSome, option_map, Result, Ok, Err, refl, sym, ◌∙◌, ap, subst, inl, inr}
use Rattle.std.specs.Option.{option_or}
use Rattle.cts_chain.specs.Builds.{Taken}
use Rattle.cts_connection.specs.LineChains.{line_uses}
use Rattle.cts_core.specs.Endings.{held_in}
use Rattle.cts_core.specs.Environments.{basis_of, site_environment}
use Rattle.cts_core.specs.Runs.{Did, Ending, Finished, NotEnabled, HistoryFull, Runs}
use Rattle.cts_core.specs.States.{opening}
use Rattle.cts_core_laws.proofs.OneRun.{has_one_run}
use Rattle.cts_core_laws.proofs.SiteSound.{site_sound}
use Rattle.cts_core_laws.specs.Told.{history_of, told}
use Rattle.cts_def.specs.Sites.{SiteData}
use Rattle.cts_entry.specs.Histories.{bytes_in, entries_in}
use Rattle.cts_entry.specs.declared.event.Event.{Event}
use Rattle.cts_outside.specs.Seen.{FilesSeen, SinkSeen, VaultSeen}
use Rattle.cts_play.specs.Pieces.{ArePieces}
use Rattle.cts_play_laws.specs.Hubs.{HaveShortTimes}
use Rattle.cts_play_laws.specs.Putting.{last_put}
use Rattle.cts_proto.specs.Meaning.{Meaning}
use Rattle.cts_run.specs.Acts.{Act, DoesAll, Outside}
use Rattle.cts_run.specs.Command.{CommandKeeps, CommandLeaves, IsDone, IsReadFirst, Performs, PerformsOf}
use Rattle.cts_run.specs.Hub.{BringsBytes, FillsAbove, GoesBelow, HubKept, HubKeptOf, IsHub, IsHubOf, IsTied, RunsAbove, ends_of, hub_phases_of, joint, pair_phases, tie_phases, world_phases, tied_phases}
use Rattle.cts_run.specs.Hubbing.{HandsDown, IsMadeTie, IsTieHalt, KeepsHub, KeepsScript, LeavesBoth, LeavesBy, LeavesHub, LeavesMade, PerformsHub, PerformsScriptBelow, PerformsWorlds}
use Rattle.cts_run.specs.Load.{events_asked, script_phase, site_asked}
use Rattle.cts_run.specs.Phases.{FileCounts, HaltCounts, HaltsAt, HaltsIn, IsFound, LoadHalts, Phase, Takes, TakesAt, first_halt}
use Rattle.cts_run.specs.Play.{play_acts, play_answer}
use Rattle.cts_run.specs.Putting.{HaltFaults, HaltLogs, SinkCounts, VaultCounts}
use Rattle.cts_run.specs.Replay.{not_enabled, next_line, replay_answer}
use Rattle.cts_run.specs.Start.{shelf_phase, short_halt, short_kind}
use Rattle.cts_run.specs.Story.{StoryData}
use Rattle.cts_run.specs.Tie.{TieData}
use Rattle.cts_run.specs.Transcript.{events_of}
use Rattle.cts_run.specs.declared.halt.Halt.{Halt}
use Rattle.cts_run.specs.declared.halt.Halt.TheVariants as halt
use Rattle.cts_run.specs.declared.hub.ends.Ends.{Ends}
use Rattle.cts_run.specs.declared.words.Command.{Command}
use Rattle.cts_run.specs.declared.words.Command.TheVariants.{Hub}
use Rattle.cts_def.specs.declared.proto_spec.Kind.{Kind}
use Rattle.cts_run.proofs.ActLemmas.{sink_of, vault_of}
use Rattle.cts_run.proofs.BoxLemmas.{both_taken, none_above, none_below}
use Rattle.cts_run.proofs.CommandLemmas.{OfNoFile, begun_shelf, counts_of, does_of, goes_so, halts_here, performs_past, unbegun_by, world_made}
use Rattle.cts_run.proofs.EndsLemmas.{Fits, ends_fit}
use Rattle.cts_run.proofs.HubLemmas.{below_finishes, below_is, some_hub, some_hub_of}
use Rattle.cts_run.proofs.PhaseLemmas.{first_past, front, here, none_alone}
use Rattle.cts_run.proofs.PlayingLemmas.{only_memory}

-- ---- no fault of a file comes of it

played_of_no_file : (dids : List Did) (ending : Ending) → OfNoFile (play_answer (Ok tt) dids ending)
played_of_no_file dids Finished = tt
played_of_no_file dids NotEnabled = tt
played_of_no_file dids HistoryFull = tt

goes_of_no_file : (above below : SiteData) (ends : Ends) (script : List ℕ) (events : List (ℕ × Event)) (dids : List Did) (ending : Ending) (acts : List Act) (due : Result (Unit {0}) Halt)
    → GoesBelow above below ends script events dids ending acts due → OfNoFile due
goes_of_no_file above below ends script events dids Finished acts due g = subst OfNoFile (sym g.due_is) (played_of_no_file g.below_dids g.ending)
goes_of_no_file above below ends script events dids NotEnabled acts due g = subst OfNoFile (sym g.1) tt
goes_of_no_file above below ends script events dids HistoryFull acts due g = subst OfNoFile (sym g.1) tt

pub hub_of_no_file : (above below : SiteData) (script : List ℕ) (events : List (ℕ × Event)) (ends : Ends) (acts : List Act) (due : Result (Unit {0}) Halt) → IsHub above below script events ends acts due → OfNoFile due
hub_of_no_file above below script events ends acts due h = goes_of_no_file above below ends script events h.dids h.ending acts due h.goes

-- ---- the events of a script above, and what the slot put below

module _ (above below : SiteData) (script : List ℕ) (events : List (ℕ × Event)) (ends : Ends) (fits : Fits ends.cut) where
  abbrev Hands : Result (Unit {0}) Halt → Outside → Outside → Type 0
  Hands answer old new = HandsDown above below script events ends answer old new

  -- memory was wanted
  pub wants_hands : (o : Outside) → Hands (Err halt.Memory) o o
  wants_hands o =
      let some = some_hub above below script events ends fits in
      record { acts = some.0; due = some.1; is = some.2; does = (0, refl) }

  pub handed : (bytes : List ℕ) (w : StoryData) (answer : Result (Unit {0}) Halt) (old new : Outside) → RunsAbove above script ends.slot events (Ok bytes) w → BringsBytes below ends bytes answer old new → Hands answer old new
  handed bytes w answer old new r b =
      let k = b.brings in
      let are = subst (λ (t : List ℕ). ArePieces ends.interface ends.cut t b.pieces) r.2 b.pieces_are in
      record {
        acts = play_acts below true k.dids k.ending;
        due = play_answer (Ok tt) k.dids k.ending;
        is = record { dids = r.0; ending = Finished; runs = r.1; goes = below_is above below ends fits events r.0 r.1 b.pieces are k.dids k.ending k.runs };
        does = k.does;
      }

  -- an event above halts the command
  by_ending : (why : Halt) (o : Outside) (dids : List Did) (ending : Ending) → Runs (site_environment above) opening (events_of events) dids ending → replay_answer script events dids ending ≡ Err why → Hands (Err why) o o
  by_ending why o dids Finished r e = absurd (cc e)
  by_ending why o dids NotEnabled r e = record {
    acts = [];
    due = replay_answer script events dids NotEnabled;
    is = record { dids = dids; ending = NotEnabled; runs = r; goes = (refl, refl) };
    does = subst (λ (a : Result (Unit {0}) Halt). DoesAll [] (Err (not_enabled script (next_line dids events))) a o o) e (refl, refl);
  }
  by_ending why o dids HistoryFull r e = record {
    acts = [];
    due = replay_answer script events dids HistoryFull;
    is = record { dids = dids; ending = HistoryFull; runs = r; goes = (refl, refl) };
    does = subst (λ (a : Result (Unit {0}) Halt). DoesAll [] (Err (halt.HistoryFull (entries_in (history_of dids)) (bytes_in (history_of dids)))) a o o) e (refl, refl);
  }

  pub halted_above : (why : Halt) (w : StoryData) (o : Outside) → RunsAbove above script ends.slot events (Err why) w → Hands (Err why) o o
  halted_above halt.Memory w o r = wants_hands o
  halted_above (halt.ReadFault name) w o r = by_ending (halt.ReadFault name) o r.0 r.1 r.2 r.3
  halted_above (halt.Absent name) w o r = by_ending (halt.Absent name) o r.0 r.1 r.2 r.3
  halted_above halt.WriteFault w o r = by_ending halt.WriteFault o r.0 r.1 r.2 r.3
  halted_above halt.LogFault w o r = by_ending halt.LogFault o r.0 r.1 r.2 r.3
  halted_above (halt.Refused name kind line cause) w o r = by_ending (halt.Refused name kind line cause) o r.0 r.1 r.2 r.3
  halted_above (halt.ShelfEmpty kind needed stocked) w o r = by_ending (halt.ShelfEmpty kind needed stocked) o r.0 r.1 r.2 r.3
  halted_above (halt.HistoryFull entries bytes) w o r = by_ending (halt.HistoryFull entries bytes) o r.0 r.1 r.2 r.3
  halted_above (halt.LogRefused place) w o r = by_ending (halt.LogRefused place) o r.0 r.1 r.2 r.3
  halted_above (halt.UnknownName name) w o r = by_ending (halt.UnknownName name) o r.0 r.1 r.2 r.3
  halted_above (halt.HubRefused cause) w o r = by_ending (halt.HubRefused cause) o r.0 r.1 r.2 r.3
  halted_above halt.Misused w o r = by_ending halt.Misused o r.0 r.1 r.2 r.3

  -- ---- what is kept of it

  abbrev Kept : Result (Unit {0}) Halt → Type 0
  Kept answer = HubKept above below events ends answer

  -- a run of the script is this one
  one : (dids more : List Did) (ending other : Ending) → Runs (site_environment above) opening (events_of events) dids ending → Runs (site_environment above) opening (events_of events) more other → (dids ≡ more) × (ending ≡ other)
  one dids more ending other r s = has_one_run (site_environment above) (site_sound (basis_of above)) opening (events_of events) dids more ending other r s

  -- the history below does not get full
  never_full : (acts : List Act) (dids : List Did) (ending : Ending) (h : Halt) (o n : Outside) (entries bytes : ℕ) → ending ≡ Finished → h ≡ halt.HistoryFull entries bytes → (Err h ≡ play_answer (Ok tt) dids ending) → FillsAbove above events
  never_full acts dids ending h o n entries bytes e f k = absurd (cc (k ∙ ap (play_answer (Ok tt) dids) e))

  pub kept_done : (bytes : List ℕ) (w : StoryData) (answer : Result (Unit {0}) Halt) (old new : Outside) → IsTied above below ends → RunsAbove above script ends.slot events (Ok bytes) w → HaveShortTimes (held_in w.world).history
      → BringsBytes below ends bytes answer old new → Kept answer
  kept_done bytes w answer old new tied r short b = by_answer answer b.brings.does
    where
      times : (dids : List Did) (ending : Ending) → Runs (site_environment above) opening (events_of events) dids ending → HaveShortTimes (history_of dids)
      times dids ending s = subst (λ (ds : List Did). HaveShortTimes (history_of ds)) (one r.0 dids Finished ending r.1 s).0 (subst HaveShortTimes r.3 short)

      are : ArePieces ends.interface ends.cut (last_put (told ends.slot (events_of events) r.0)) b.pieces
      are = subst (λ (t : List ℕ). ArePieces ends.interface ends.cut t b.pieces) r.2 b.pieces_are

      finished : b.brings.ending ≡ Finished
      finished = below_finishes above below ends fits events r.0 r.1 b.pieces are b.brings.dids b.brings.ending b.brings.runs (record { tied = tied; times = times })

      by_answer : (a : Result (Unit {0}) Halt) → DoesAll (play_acts below true b.brings.dids b.brings.ending) (play_answer (Ok tt) b.brings.dids b.brings.ending) a old new → Kept a
      by_answer (Ok done) d = record { tied = tied; times = times }
      by_answer (Err (halt.HistoryFull entries more)) d = never_full [] b.brings.dids b.brings.ending (halt.HistoryFull entries more) old new entries more finished refl d.0
      by_answer (Err halt.Memory) d = tt
      by_answer (Err (halt.ReadFault name)) d = tt
      by_answer (Err (halt.Absent name)) d = tt
      by_answer (Err halt.WriteFault) d = tt
      by_answer (Err halt.LogFault) d = tt
      by_answer (Err (halt.Refused name kind line cause)) d = tt
      by_answer (Err (halt.ShelfEmpty kind needed stocked)) d = tt
      by_answer (Err (halt.LogRefused place)) d = tt
      by_answer (Err (halt.UnknownName name)) d = tt
      by_answer (Err (halt.HubRefused cause)) d = tt
      by_answer (Err halt.Misused) d = tt

  filled : (why : Halt) (dids : List Did) (ending : Ending) → Runs (site_environment above) opening (events_of events) dids ending → replay_answer script events dids ending ≡ Err why → (entries bytes : ℕ) → why ≡ halt.HistoryFull entries bytes → FillsAbove above events
  filled why dids Finished r e entries bytes f = absurd (cc e)
  filled why dids NotEnabled r e entries bytes f =
      let never : Err (not_enabled script (next_line dids events)) ≡ Err (halt.HistoryFull entries bytes) = e ∙ ap (λ (h : Halt). Err h) f in
      absurd (cc never)
  filled why dids HistoryFull r e entries bytes f = λ more other s. sym (one dids more HistoryFull other r s).1

  pub kept_halted : (why : Halt) (w : StoryData) → RunsAbove above script ends.slot events (Err why) w → Kept (Err why)
  kept_halted (halt.HistoryFull entries bytes) w r = filled (halt.HistoryFull entries bytes) r.0 r.1 r.2 r.3 entries bytes refl
  kept_halted halt.Memory w r = tt
  kept_halted (halt.ReadFault name) w r = tt
  kept_halted (halt.Absent name) w r = tt
  kept_halted halt.WriteFault w r = tt
  kept_halted halt.LogFault w r = tt
  kept_halted (halt.Refused name kind line cause) w r = tt
  kept_halted (halt.ShelfEmpty kind needed stocked) w r = tt
  kept_halted (halt.LogRefused place) w r = tt
  kept_halted (halt.UnknownName name) w r = tt
  kept_halted (halt.HubRefused cause) w r = tt
  kept_halted halt.Misused w r = tt

-- where a file can't be loaded, the history is not full
load_keeps : (above below : SiteData) (events : List (ℕ × Event)) (ends : Ends) (h : Halt) (files files' : FilesSeen) → LoadHalts h files files' → HubKept above below events ends (Err h)
load_keeps above below events ends (halt.HistoryFull entries bytes) files files' k = absurd k
load_keeps above below events ends halt.Memory files files' k = tt
load_keeps above below events ends (halt.ReadFault name) files files' k = tt
load_keeps above below events ends (halt.Absent name) files files' k = tt
load_keeps above below events ends halt.WriteFault files files' k = tt
load_keeps above below events ends halt.LogFault files files' k = tt
load_keeps above below events ends (halt.Refused name kind line cause) files files' k = tt
load_keeps above below events ends (halt.ShelfEmpty kind needed stocked) files files' k = tt
load_keeps above below events ends (halt.LogRefused place) files files' k = tt
load_keeps above below events ends (halt.UnknownName name) files files' k = tt
load_keeps above below events ends (halt.HubRefused cause) files files' k = tt
load_keeps above below events ends halt.Misused files files' k = tt

pub unscripted_keeps : (above below : SiteData) (ends : Ends) (script : List ℕ) (told : Option (List ℕ → Option (List ℕ))) (files files' : FilesSeen) (h : Halt) → LoadHalts h files files' → IfSome told (λ all. KeepsScript all above below ends script (Err h))
unscripted_keeps above below ends script None files files' h k = tt
unscripted_keeps above below ends script (Some all) files files' h k = load_keeps above below (events_asked all above script) ends h files files' k

-- nor at a tie or the shelf
tie_keeps : (above below : SiteData) (events : List (ℕ × Event)) (ends : Ends) (h : Halt) → IsTieHalt h → HubKept above below events ends (Err h)
tie_keeps above below events ends halt.Memory k = tt
tie_keeps above below events ends (halt.HubRefused cause) k = tt
tie_keeps above below events ends halt.Misused k = tt
tie_keeps above below events ends (halt.HistoryFull entries bytes) k = absurd k
tie_keeps above below events ends (halt.ReadFault name) k = tt
tie_keeps above below events ends (halt.Absent name) k = tt
tie_keeps above below events ends halt.WriteFault k = tt
tie_keeps above below events ends halt.LogFault k = tt
tie_keeps above below events ends (halt.Refused name kind line cause) k = tt
tie_keeps above below events ends (halt.ShelfEmpty kind needed stocked) k = tt
tie_keeps above below events ends (halt.LogRefused place) k = tt
tie_keeps above below events ends (halt.UnknownName name) k = tt

keeps_by : (above below : SiteData) (events : List (ℕ × Event)) (o : Option Ends) (h : Halt) → ((ends : Ends) → HubKept above below events ends (Err h)) → HubKeptOf above below events o (Err h)
keeps_by above below events None h k = tt
keeps_by above below events (Some ends) h k = k ends

pub untied_keeps : (above below : SiteData) (script : List ℕ) (tie : TieData) (told : Option (List ℕ → Option (List ℕ))) (h : Halt) → IsTieHalt h → IfSome told (λ all. KeepsHub all above below script tie (Err h))
untied_keeps above below script tie None h k = tt
untied_keeps above below script tie (Some all) h k =
    keeps_by above below (events_asked all above script) (ends_of above below tie) h (λ ends. tie_keeps above below (events_asked all above script) ends h k)

pub unpaired_keeps : (definitions site script below : List ℕ) (tie : TieData) (told : Option (List ℕ → Option (List ℕ))) (h : Halt) (files files' : FilesSeen) → LoadHalts h files files' → IfSome told (λ all. CommandKeeps all (Hub definitions site script below tie) (Err h))
unpaired_keeps definitions site script below tie None h files files' k = tt
unpaired_keeps definitions site script below tie (Some all) h files files' k =
    let above = site_asked all definitions site in
    let lower = site_asked all definitions below in
    keeps_by above lower (events_asked all above script) (ends_of above lower tie) h (λ ends. load_keeps above lower (events_asked all above script) ends h files files' k)

-- ---- the script

module _ (above below : SiteData) (ends : Ends) (fits : Fits ends.cut) (script : List ℕ) where
  abbrev asked : (List ℕ → Option (List ℕ)) → List (ℕ × Event)
  asked all = events_asked all above script

  abbrev Done : (List ℕ → Option (List ℕ)) → List Act → Result (Unit {0}) Halt → Type 0
  Done all = IsHub above below script (asked all) ends

  pub script_hands : (told : Option (List ℕ → Option (List ℕ))) (events : List (ℕ × Event)) (answer : Result (Unit {0}) Halt) (old new : Outside)
      → IfSome told (λ all. TakesAt (script_phase all above script) (asked all) (Ok events)) → HandsDown above below script events ends answer old new → IfSome told (λ all. PerformsScriptBelow all above below ends script answer old new)
  script_hands None events answer old new t k = tt
  script_hands (Some all) events answer old new t k = record {
    acts = k.acts;
    due = k.due;
    is = goes_so (script_phase all above script ∷ []) (Done all) k.acts k.due (none_alone (script_phase all above script) t.0)
        (subst (λ (es : List (ℕ × Event)). IsHub above below script es ends k.acts k.due) t.1 k.is);
    does = does_of (IsReadFirst (script_phase all above script ∷ [])) k.acts k.due answer old new (hub_of_no_file above below script events ends k.acts k.due k.is) k.does;
  }

  pub script_halts : (told : Option (List ℕ → Option (List ℕ))) (h : Halt) (o : Outside) → IfSome told (λ all. HaltsAt (script_phase all above script) h) → IfSome told (λ all. PerformsScriptBelow all above below ends script (Err h) o o)
  script_halts None h o k = tt
  script_halts (Some all) h o k = halts_here (script_phase all above script ∷ []) (Done all) (some_hub above below script (asked all) ends fits) h o (here (script_phase all above script) [] h k)

  pub script_keeps : (told : Option (List ℕ → Option (List ℕ))) (events : List (ℕ × Event)) (answer : Result (Unit {0}) Halt)
      → IfSome told (λ all. TakesAt (script_phase all above script) (asked all) (Ok events)) → HubKept above below events ends answer → IfSome told (λ all. KeepsScript all above below ends script answer)
  script_keeps None events answer t k = tt
  script_keeps (Some all) events answer t k = subst (λ (es : List (ℕ × Event)). HubKept above below es ends answer) t.1 k

pub hands_counts : (above below : SiteData) (script : List ℕ) (events : List (ℕ × Event)) (ends : Ends) (answer : Result (Unit {0}) Halt) (old new : Outside) (files files' : FilesSeen) → HandsDown above below script events ends answer old new → IsFound files files' → FileCounts answer files files'
hands_counts above below script events ends answer old new files files' k f = counts_of k.acts k.due answer old new files files' (hub_of_no_file above below script events ends k.acts k.due k.is) k.does f

pub hands_faults : (above below : SiteData) (script : List ℕ) (events : List (ℕ × Event)) (ends : Ends) (answer : Result (Unit {0}) Halt) (old new : Outside) → HandsDown above below script events ends answer old new → SinkCounts answer old.out new.out
hands_faults above below script events ends answer old new k = sink_of k.acts k.due answer old new k.does

pub hands_logs : (above below : SiteData) (script : List ℕ) (events : List (ℕ × Event)) (ends : Ends) (answer : Result (Unit {0}) Halt) (old new : Outside) → HandsDown above below script events ends answer old new → VaultCounts answer old.vault new.vault
hands_logs above below script events ends answer old new k = vault_of k.acts k.due answer old new k.does

-- ---- the worlds

module _ (stock : List Meaning) (above below : SiteData) (ends : Ends) (fits : Fits ends.cut) (script : List ℕ) where
  abbrev both : SiteData
  both = joint above below

  pub worlds_perform : (told : Option (List ℕ → Option (List ℕ))) (answer : Result (Unit {0}) Halt) (old new : Outside) → short_kind stock both ≡ None
      → IfSome told (λ all. PerformsScriptBelow all above below ends script answer old new) → IfSome told (λ all. PerformsWorlds stock all above below ends script answer old new)
  worlds_perform None answer old new e k = tt
  worlds_perform (Some all) answer old new e k =
      performs_past (shelf_phase stock both ∷ []) (script_phase all above script ∷ []) (IsHub above below script (events_asked all above script) ends) answer old new (world_made stock both e) k

  -- the shelf is short
  short_here : (kind : Option Kind) (h : Halt) → short_kind stock both ≡ kind → Some h ≡ option_map (short_halt stock both) kind → HaltsIn (shelf_phase stock both ∷ []) h
  short_here None h e f = absurd (cc f)
  short_here (Some kind) h e f =
      let same : h ≡ short_halt stock both kind = cc f in
      subst (λ (x : Halt). HaltsIn (shelf_phase stock both ∷ []) x) (sym same) (ap (λ (k : Option Kind). option_or (option_map (short_halt stock both) k) None) e)

  pub short_halts : (h : Halt) → Some h ≡ option_map (short_halt stock both) (short_kind stock both) → HaltsIn (shelf_phase stock both ∷ []) h
  short_halts h f = short_here (short_kind stock both) h refl f

  -- what is told of it
  pub short_is : (h : Halt) → Some h ≡ option_map (short_halt stock both) (short_kind stock both) → (kind : Kind) × (h ≡ short_halt stock both kind)
  short_is h f = by_kind (short_kind stock both) f
    where
      by_kind : (k : Option Kind) → Some h ≡ option_map (short_halt stock both) k → (kind : Kind) × (h ≡ short_halt stock both kind)
      by_kind None e = absurd (cc e)
      by_kind (Some kind) e = (kind, cc e)

  pub short_keeps : (told : Option (List ℕ → Option (List ℕ))) (h : Halt) → (kind : Kind) × (h ≡ short_halt stock both kind) → IfSome told (λ all. KeepsScript all above below ends script (Err h))
  short_keeps None h s = tt
  short_keeps (Some all) h s = subst (λ (x : Halt). KeepsScript all above below ends script (Err x)) (sym s.1) tt

  pub short_files : (h : Halt) (files : FilesSeen) → (kind : Kind) × (h ≡ short_halt stock both kind) → HaltCounts h files files
  short_files h files s = subst (λ (x : Halt). HaltCounts x files files) (sym s.1) (refl, refl)

  pub short_sink : (h : Halt) (out : SinkSeen) → (kind : Kind) × (h ≡ short_halt stock both kind) → HaltFaults h out out
  short_sink h out s = subst (λ (x : Halt). HaltFaults x out out) (sym s.1) refl

  pub short_vault : (h : Halt) (vault : VaultSeen) → (kind : Kind) × (h ≡ short_halt stock both kind) → HaltLogs h vault vault
  short_vault h vault s = subst (λ (x : Halt). HaltLogs x vault vault) (sym s.1) refl

  pub short_performs : (told : Option (List ℕ → Option (List ℕ))) (h : Halt) (o : Outside) → HaltsIn (shelf_phase stock both ∷ []) h → IfSome told (λ all. PerformsWorlds stock all above below ends script (Err h) o o)
  short_performs None h o k = tt
  short_performs (Some all) h o k =
      halts_here (world_phases stock all above below script) (IsHub above below script (events_asked all above script) ends) (some_hub above below script (events_asked all above script) ends fits) h o
      (front (shelf_phase stock both ∷ []) (script_phase all above script ∷ []) h k)

  pub not_short : None ≡ option_map (short_halt stock both) (short_kind stock both) → short_kind stock both ≡ None
  not_short e = none_by (short_kind stock both) e
    where
      none_by : (k : Option Kind) → None ≡ option_map (short_halt stock both) k → k ≡ None
      none_by None e = refl
      none_by (Some kind) e = absurd (cc e)

  pub short_leaves : (h : Halt) → HaltsIn (shelf_phase stock both ∷ []) h → LeavesBoth above below (Err h) stock stock
  short_leaves h k = inl (unbegun_by both (shelf_phase stock both ∷ []) h (first_halt (shelf_phase stock both ∷ [])) stock stock refl k refl)

  pub made_leave : (answer : Result (Unit {0}) Halt) (new : List Meaning) → short_kind stock both ≡ None → LeavesMade above below answer stock new → LeavesBoth above below answer stock new
  made_leave answer new e k = subst (λ (h : Option Halt). LeavesBy above below h answer stock new) (sym (world_made stock both e)) k

-- both are made
pub both_made : (stock mid new : List Meaning) (above below : SiteData) (answer : Result (Unit {0}) Halt) → Taken stock (line_uses above) mid → Taken mid (line_uses below) new → LeavesMade above below answer stock new
both_made stock mid new above below answer t u = inl (begun_shelf (joint above below) answer stock new (both_taken stock mid new above below t u))

-- one of them finds no memory
pub half_made : (stock mid new : List Meaning) (above below : SiteData) (h : Halt) → short_kind stock (joint above below) ≡ None → Taken stock (line_uses above) mid → HaltsIn (shelf_phase mid below ∷ []) h → new ≡ mid → LeavesMade above below (Err h) stock new
half_made stock mid new above below h e t k same =
    let memory : h ≡ halt.Memory = only_memory mid below h (none_below stock mid above below e t) k in
    subst (λ (x : Halt). LeavesMade above below (Err x) stock new) (sym memory) (inr (subst (Taken stock (line_uses above)) (sym same) t))

pub none_made : (stock new : List Meaning) (above below : SiteData) (h : Halt) → short_kind stock (joint above below) ≡ None → HaltsIn (shelf_phase stock above ∷ []) h → new ≡ stock → LeavesMade above below (Err h) stock new
none_made stock new above below h e k same =
    let memory : h ≡ halt.Memory = only_memory stock above h (none_above stock stock above below e) k in
    subst (λ (x : Halt). LeavesMade above below (Err x) stock new) (sym memory) (inl (inl same))

pub memory_performs : (above below : SiteData) (ends : Ends) (fits : Fits ends.cut) (script : List ℕ) (told : Option (List ℕ → Option (List ℕ))) (h : Halt) (o : Outside) → h ≡ halt.Memory → IfSome told (λ all. PerformsScriptBelow all above below ends script (Err h) o o)
memory_performs above below ends fits script None h o e = tt
memory_performs above below ends fits script (Some all) h o e =
    subst (λ (x : Halt). PerformsScriptBelow all above below ends script (Err x) o o) (sym e)
    (halts_here (script_phase all above script ∷ []) (IsHub above below script (events_asked all above script) ends) (some_hub above below script (events_asked all above script) ends fits) halt.Memory o tt)

pub memory_keeps : (above below : SiteData) (ends : Ends) (script : List ℕ) (told : Option (List ℕ → Option (List ℕ))) (h : Halt) → h ≡ halt.Memory → IfSome told (λ all. KeepsScript all above below ends script (Err h))
memory_keeps above below ends script None h e = tt
memory_keeps above below ends script (Some all) h e = subst (λ (x : Halt). KeepsScript all above below ends script (Err x)) (sym e) tt

-- ---- the tie

module _ (stock : List Meaning) (above below : SiteData) (script : List ℕ) (tie : TieData) where
  abbrev Tied : (List ℕ → Option (List ℕ)) → List Act → Result (Unit {0}) Halt → Type 0
  Tied all = IsHubOf above below script (events_asked all above script) (ends_of above below tie)

  pub tied_performs : (told : Option (List ℕ → Option (List ℕ))) (hub : ℕ) (ends : Ends) (answer : Result (Unit {0}) Halt) (old new : Outside) → first_halt (tie_phases above below tie) ≡ None → IsMadeTie above below tie hub ends
      → IfSome told (λ all. PerformsWorlds stock all above below ends script answer old new) → IfSome told (λ all. PerformsHub stock all above below script tie answer old new)
  tied_performs None hub ends answer old new e m k = tt
  tied_performs (Some all) hub ends answer old new e m k =
      performs_past (tie_phases above below tie) (world_phases stock all above below script) (Tied all) answer old new e
      (subst (λ (o : Option Ends). PerformsOf (world_phases stock all above below script) (IsHubOf above below script (events_asked all above script) o) answer old new) (sym m.named) k)

  pub untied_performs : (told : Option (List ℕ → Option (List ℕ))) (h : Halt) (o : Outside) → HaltsIn (tie_phases above below tie) h → IfSome told (λ all. PerformsHub stock all above below script tie (Err h) o o)
  untied_performs None h o k = tt
  untied_performs (Some all) h o k =
      halts_here (hub_phases_of stock all above below script tie) (Tied all) (some_hub_of above below script (events_asked all above script) (ends_of above below tie) (ends_fit above below tie)) h o
      (front (tie_phases above below tie) (world_phases stock all above below script) h k)

  pub tied_leaves : (answer : Result (Unit {0}) Halt) (new : List Meaning) → first_halt (tie_phases above below tie) ≡ None → LeavesBoth above below answer stock new → LeavesHub above below tie answer stock new
  tied_leaves answer new e k =
      subst (λ (h : Option Halt). LeavesBy above below h answer stock new) (sym (first_past (tie_phases above below tie) (shelf_phase stock (joint above below) ∷ []) e)) k

  pub untied_leaves : (h : Halt) → HaltsIn (tie_phases above below tie) h → LeavesHub above below tie (Err h) stock stock
  untied_leaves h k =
      let ps = tie_phases above below tie ++ shelf_phase stock (joint above below) ∷ [] in
      inl (unbegun_by (joint above below) ps h (first_halt ps) stock stock refl (front (tie_phases above below tie) (shelf_phase stock (joint above below) ∷ []) h k) refl)

  pub tied_keeps : (told : Option (List ℕ → Option (List ℕ))) (hub : ℕ) (ends : Ends) (answer : Result (Unit {0}) Halt) → IsMadeTie above below tie hub ends → IfSome told (λ all. KeepsScript all above below ends script answer) → IfSome told (λ all. KeepsHub all above below script tie answer)
  tied_keeps None hub ends answer m k = tt
  tied_keeps (Some all) hub ends answer m k = subst (λ (o : Option Ends). HubKeptOf above below (events_asked all above script) o answer) (sym m.named) k

-- ---- both sites

module _ (stock : List Meaning) (definitions site script below : List ℕ) (tie : TieData) where
  abbrev command : Command
  command = Hub definitions site script below tie

  abbrev first : (List ℕ → Option (List ℕ)) → SiteData
  first all = site_asked all definitions site

  abbrev second : (List ℕ → Option (List ℕ)) → SiteData
  second all = site_asked all definitions below

  abbrev pub TakesPair : (List ℕ → Option (List ℕ)) → Result (SiteData × SiteData) Halt → Type 0
  TakesPair all answer = Takes (pair_phases all definitions site below) (first all, second all) answer

  pub pair_performs : (told later : Option (List ℕ → Option (List ℕ))) (x : SiteData × SiteData) (answer : Result (Unit {0}) Halt) (old new : Outside) → later ≡ told
      → IfSome told (λ all. TakesPair all (Ok x)) → IfSome later (λ all. PerformsHub stock all x.0 x.1 script tie answer old new) → IfSome told (λ all. Performs stock all command answer old new)
  pair_performs None later x answer old new same s k = tt
  pair_performs (Some all) later x answer old new same s k =
      let k' = subst (λ (t : Option (List ℕ → Option (List ℕ))). IfSome t (λ all. PerformsHub stock all x.0 x.1 script tie answer old new)) same k in
      let k'' = subst (λ (y : SiteData × SiteData). PerformsHub stock all y.0 y.1 script tie answer old new) s.1 k' in
      performs_past (pair_phases all definitions site below) (hub_phases_of stock all (first all) (second all) script tie) (IsDone all command) answer old new s.0 k''

  pub pair_fails : (told : Option (List ℕ → Option (List ℕ))) (h : Halt) (o : Outside) → IfSome told (λ all. TakesPair all (Err h)) → IfSome told (λ all. Performs stock all command (Err h) o o)
  pair_fails None h o k = tt
  pair_fails (Some all) h o k =
      halts_here (pair_phases all definitions site below ++ hub_phases_of stock all (first all) (second all) script tie) (IsDone all command)
      (some_hub_of (first all) (second all) script (events_asked all (first all) script) (ends_of (first all) (second all) tie) (ends_fit (first all) (second all) tie)) h o
      (front (pair_phases all definitions site below) (hub_phases_of stock all (first all) (second all) script tie) h k)

  abbrev tied_after : (List ℕ → Option (List ℕ)) → List Phase
  tied_after all = tie_phases (first all) (second all) tie ++ shelf_phase stock (joint (first all) (second all)) ∷ []

  pub pair_leaves : (told : Option (List ℕ → Option (List ℕ))) (x : SiteData × SiteData) (answer : Result (Unit {0}) Halt) (new : List Meaning)
      → IfSome told (λ all. TakesPair all (Ok x)) → LeavesHub x.0 x.1 tie answer stock new → IfSome told (λ all. CommandLeaves all command answer stock new)
  pair_leaves None x answer new s k = tt
  pair_leaves (Some all) x answer new s k =
      let k' = subst (λ (y : SiteData × SiteData). LeavesHub y.0 y.1 tie answer stock new) s.1 k in
      subst (λ (h : Option Halt). LeavesBy (first all) (second all) h answer stock new) (sym (first_past (pair_phases all definitions site below) (tied_after all) s.0)) k'

  pub unpaired_leaves : (told : Option (List ℕ → Option (List ℕ))) (h : Halt) → IfSome told (λ all. TakesPair all (Err h)) → IfSome told (λ all. CommandLeaves all command (Err h) stock stock)
  unpaired_leaves None h k = tt
  unpaired_leaves (Some all) h k =
      inl (unbegun_by (joint (first all) (second all)) (tied_phases stock all definitions site below tie) h (first_halt (tied_phases stock all definitions site below tie)) stock stock refl
      (front (pair_phases all definitions site below) (tied_after all) h k) refl)

  pub pair_keeps : (told later : Option (List ℕ → Option (List ℕ))) (x : SiteData × SiteData) (answer : Result (Unit {0}) Halt) → later ≡ told
      → IfSome told (λ all. TakesPair all (Ok x)) → IfSome later (λ all. KeepsHub all x.0 x.1 script tie answer) → IfSome told (λ all. CommandKeeps all command answer)
  pair_keeps None later x answer same s k = tt
  pair_keeps (Some all) later x answer same s k =
      let k' = subst (λ (t : Option (List ℕ → Option (List ℕ))). IfSome t (λ all. KeepsHub all x.0 x.1 script tie answer)) same k in
      subst (λ (y : SiteData × SiteData). KeepsHub all y.0 y.1 script tie answer) s.1 k'
