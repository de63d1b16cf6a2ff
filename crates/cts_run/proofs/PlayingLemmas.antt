-- What a command answers that plays a log, and what it leaves of the shelf.
use Rattle.std.proofs.Common.{◌≡◌, ℕ, Bool, true, false, List, [], ◌∷◌, ◌++◌, length, nat_eq, Option, Some, None, IfSome, MatchOption, Result, Ok, Err, refl, sym, ◌∙◌, ap, subst, arith, inl, inr}
use Rattle.std.proofs.lemmas.Bool.Decides.{nat_tests}
use Rattle.std.proofs.lemmas.List.{append-nil}
use Rattle.std.specs.Prelude.{IsTrue, nat_lt, option_map}
use Rattle.std.specs.Option.{option_or}
use Rattle.cts_chain.specs.Builds.{FaultIs, Taken}
use Rattle.cts_chain.specs.declared.build.ChainFault.{ChainFault}
use Rattle.cts_connection.specs.LineChains.{line_uses}
use Rattle.cts_core.specs.Environments.{site_environment}
use Rattle.cts_core.specs.Runs.{Did, Ending, Finished, NotEnabled, HistoryFull, Runs}
use Rattle.cts_core.specs.States.{opening}
use Rattle.cts_def.specs.Protocols.{is_layout}
use Rattle.cts_def.specs.Sites.{SiteData, targets_of}
use Rattle.cts_log.specs.Files.{flagged_of, kind_of, layout_of}
use Rattle.cts_log.specs.Reading.{IsLogRead}
use Rattle.cts_log.specs.declared.kind.LogKind.{LogKind}
use Rattle.cts_log.specs.declared.kind.LogKind.TheVariants.{Cmd, Tlm}
use Rattle.cts_outside.specs.Seen.{FilesSeen}
use Rattle.cts_play.specs.Played.{play_interface, played}
use Rattle.cts_proto.specs.Meaning.{Meaning}
use Rattle.cts_run.specs.Acts.{Act, DoesAll, Outside}
use Rattle.cts_run.specs.Causes.{chain_halt}
use Rattle.cts_ident_laws.specs.Named.{HaveNames}
use Rattle.cts_run.specs.Command.{CommandKeeps, CommandLeaves, IsDone, IsDueOf, IsReadFirst, Performs, PerformsOf, ShelfBy}
use Rattle.cts_run.specs.Dump.{dump_answer}
use Rattle.cts_run.specs.Extract.{columns_phase}
use Rattle.cts_run.specs.Load.{bytes_of, site_asked, site_phases}
use Rattle.cts_run.specs.Load.Files.{GivesBytes, log_limit, within}
use Rattle.cts_run.specs.Phases.{FileCounts, HaltsIn, IsFound, Phase, file_halt, first_halt}
use Rattle.cts_run.specs.Play.{IsPlay, PlaysLog, log_phases, packets_halt, packets_phase, last_time, play_acts, play_answer, play_phases, play_phases_of, play_run}
use Rattle.cts_run.specs.Playing.{LeavesPlay, PerformsPlay, PutsPlay}
use Rattle.cts_run.specs.Putting.{SinkCounts, VaultCounts}
use Rattle.cts_run.specs.Start.{shelf_phase, short_halt, short_kind}
use Rattle.cts_run.specs.declared.halt.Halt.{Halt}
use Rattle.cts_run.specs.declared.halt.Halt.TheVariants as halt
use Rattle.cts_run.specs.declared.words.Command.{Command}
use Rattle.cts_run.specs.declared.words.Command.TheVariants.{Play}
use Rattle.cts_run.proofs.ActLemmas.{sink_of, vault_of}
use Rattle.cts_run.proofs.CommandLemmas.{OfNoFile, TakesSite, begun_shelf, counts_of, does_of, due_past, goes_so, halts_here, halts_so, never_some, performs_past, shelf_fails, some_due, unbegun_by, world_made}
use Rattle.cts_run.proofs.ExtractLemmas.{kind_read}
use Rattle.cts_run.proofs.PhaseLemmas.{first_past, front, here, none_alone, none_both, past}
use Rattle.cts_run.proofs.PlayedLemmas.{played_is, some_play}

-- ---- the site that plays

-- of the site that plays it is the same as of the site
pub played_again : (layout first : ℕ) (site : SiteData) → played layout (played first site) ≡ played layout site
played_again layout first site =
    let targets : targets_of site.interfaces ++ [] ≡ targets_of site.interfaces = append-nil (targets_of site.interfaces) in
    λ i. record {
      definitions = site.definitions;
      interfaces = play_interface layout (targets i) ∷ [];
      routers = [];
      api_port = site.api_port;
      desks = site.desks;
      log_layout = layout;
      log_cycle = None;
    }

pub played_from : (layout : ℕ) (first site : SiteData) → first ≡ played 2 site → played layout first ≡ played layout site
played_from layout first site e = ap (played layout) e ∙ played_again layout 2 site

pub layout_is : (flagged : Bool) → IsTrue (is_layout (layout_of flagged))
layout_is true = refl
layout_is false = refl

-- both layouts need the same box
pub same_short : (stock : List Meaning) (layout : ℕ) (first site : SiteData) → first ≡ played 2 site → short_kind stock first ≡ None → short_kind stock (played layout first) ≡ None
same_short stock layout first site e h = subst (λ (s : SiteData). short_kind stock s ≡ None) e h

pub same_taken : (layout : ℕ) (first site : SiteData) (old new : List Meaning) → first ≡ played 2 site → Taken old (line_uses (played layout first)) new → Taken old (line_uses (played 2 site)) new
same_taken layout first site old new e t = t

-- ---- the file

module _ (site : SiteData) (file : List ℕ) where
  abbrev done : List Act → Result (Unit {0}) Halt → Type 0
  done = IsPlay site file

  abbrev phases : List Phase
  phases = packets_phase file ∷ []

  alone : (h : Option Halt) → packets_halt (kind_of file) ≡ h → first_halt phases ≡ option_or h None
  alone h e = ap (λ (o : Option Halt). option_or o None) e

  pub no_packets : (o : Outside) → packets_halt (kind_of file) ≡ Some (halt.LogRefused 0) → PutsPlay site file (Err (halt.LogRefused 0)) o o
  no_packets o e = record { acts = []; due = Err (halt.LogRefused 0); is = halts_so phases done (halt.LogRefused 0) (alone (Some (halt.LogRefused 0)) e); does = (refl, refl) }

  pub wants_play : (o : Outside) → PutsPlay site file (Err halt.Memory) o o
  wants_play o =
      let some = some_due phases done (some_play site file) in
      record { acts = some.0; due = some.1; is = some.2; does = (0, refl) }

  some_kind : (a b : LogKind) → Some a ≡ Some b → a ≡ b
  some_kind a b e = cc e

  pub puts_play : (on : SiteData) (answer : Result (Unit {0}) Halt) (old new : Outside) → kind_of file ≡ Some Tlm → on ≡ played (layout_of (flagged_of file)) site → PlaysLog on file answer old new → PutsPlay site file answer old new
  puts_play on answer old new e is p =
      let n = length file in
      let fl = flagged_of file in
      let z = played (layout_of fl) site in
      let kind : p.kind ≡ Tlm = some_kind p.kind Tlm (sym (kind_read file p.kind fl p.entries p.place p.read) ∙ e) in
      let read = subst (λ (k : LogKind). IsLogRead file k fl p.entries p.place) kind p.read in
      let run_1 = subst (λ (s : SiteData). Runs (site_environment s) opening (play_run p.whole (last_time p.entries) p.events) p.dids p.ending) is p.runs in
      let run_2 = subst (λ (b : Bool). Runs (site_environment z) opening (play_run b (last_time p.entries) p.events) p.dids p.ending) (sym p.whole_is) run_1 in
      let acts = play_acts z (nat_eq p.place n) p.dids p.ending in
      let due = play_answer (dump_answer p.place n) p.dids p.ending in
      let does_1 = subst (λ (s : SiteData). DoesAll (play_acts s p.whole p.dids p.ending) due answer old new) is p.does in
      record {
        acts = acts;
        due = due;
        is = goes_so phases done acts due (alone None (ap packets_halt e)) (inl (played_is site file fl p.entries p.place read p.events p.events_are p.dids p.ending run_2));
        does = subst (λ (b : Bool). DoesAll (play_acts z b p.dids p.ending) due answer old new) (sym p.whole_is) does_1;
      }

  -- no fault of a file comes of it
  ends_of_no_file : (place n : ℕ) (whole : Bool) → nat_eq place n ≡ whole → OfNoFile (dump_answer place n)
  ends_of_no_file place n true e = rw e tt
  ends_of_no_file place n false e = rw e tt

  answer_of_no_file : (place n : ℕ) (dids : List Did) (ending : Ending) → OfNoFile (play_answer (dump_answer place n) dids ending)
  answer_of_no_file place n dids Finished = ends_of_no_file place n (nat_eq place n) refl
  answer_of_no_file place n dids NotEnabled = ends_of_no_file place n (nat_eq place n) refl
  answer_of_no_file place n dids HistoryFull = tt

  done_of_no_file : (acts : List Act) (due : Result (Unit {0}) Halt) → IsPlay site file acts due → OfNoFile due
  done_of_no_file acts due (inl p) = subst OfNoFile (sym p.due_is) (answer_of_no_file p.place (length file) p.dids p.ending)
  done_of_no_file acts due (inr p) = subst OfNoFile (sym p.refused) tt

  due_by_kind : (k : Option LogKind) (acts : List Act) (due : Result (Unit {0}) Halt) → MatchOption (option_or (packets_halt k) None) (done acts due) (λ h. (acts ≡ []) × (due ≡ Err h)) → OfNoFile due
  due_by_kind None acts due m = subst OfNoFile (sym m.1) tt
  due_by_kind (Some Tlm) acts due m = done_of_no_file acts due m
  due_by_kind (Some Cmd) acts due m = subst OfNoFile (sym m.1) tt

  pub play_of_no_file : (acts : List Act) (due : Result (Unit {0}) Halt) → IsDueOf phases done acts due → OfNoFile due
  play_of_no_file acts due m = due_by_kind (kind_of file) acts due m

  pub play_counts : (answer : Result (Unit {0}) Halt) (old new : Outside) (files files' : FilesSeen) → PutsPlay site file answer old new → IsFound files files' → FileCounts answer files files'
  play_counts answer old new files files' p f = counts_of p.acts p.due answer old new files files' (play_of_no_file p.acts p.due p.is) p.does f

  pub play_faults : (answer : Result (Unit {0}) Halt) (old new : Outside) → PutsPlay site file answer old new → SinkCounts answer old.out new.out
  play_faults answer old new p = sink_of p.acts p.due answer old new p.does

  pub play_logs : (answer : Result (Unit {0}) Halt) (old new : Outside) → PutsPlay site file answer old new → VaultCounts answer old.vault new.vault
  play_logs answer old new p = vault_of p.acts p.due answer old new p.does

-- ---- a world that is not made, though the shelf is not short: memory ran out

pub only_memory : (stock : List Meaning) (site : SiteData) (h : Halt) → short_kind stock site ≡ None → HaltsIn (shelf_phase stock site ∷ []) h → h ≡ halt.Memory
only_memory stock site halt.Memory e k = refl
only_memory stock site (halt.ReadFault name) e k = elim k [
  | inl r ↦ absurd (cc r)
  | inr r ↦ absurd r.1
]
only_memory stock site (halt.Absent name) e k = never_some (shelf_phase stock site ∷ []) (halt.Absent name) (world_made stock site e) k
only_memory stock site halt.WriteFault e k = absurd k
only_memory stock site halt.LogFault e k = absurd k
only_memory stock site (halt.Refused name kind line cause) e k = never_some (shelf_phase stock site ∷ []) (halt.Refused name kind line cause) (world_made stock site e) k
only_memory stock site (halt.ShelfEmpty kind needed stocked) e k = never_some (shelf_phase stock site ∷ []) (halt.ShelfEmpty kind needed stocked) (world_made stock site e) k
only_memory stock site (halt.HistoryFull entries bytes) e k = never_some (shelf_phase stock site ∷ []) (halt.HistoryFull entries bytes) (world_made stock site e) k
only_memory stock site (halt.LogRefused place) e k = never_some (shelf_phase stock site ∷ []) (halt.LogRefused place) (world_made stock site e) k
only_memory stock site (halt.UnknownName name) e k = never_some (shelf_phase stock site ∷ []) (halt.UnknownName name) (world_made stock site e) k
only_memory stock site (halt.HubRefused cause) e k = never_some (shelf_phase stock site ∷ []) (halt.HubRefused cause) (world_made stock site e) k
only_memory stock site halt.Misused e k = never_some (shelf_phase stock site ∷ []) halt.Misused (world_made stock site e) k

pub unmade_play : (stock : List Meaning) (first site on : SiteData) (layout : ℕ) (file : List ℕ) (h : Halt) (o : Outside) → first ≡ played 2 site → on ≡ played layout first → short_kind stock first ≡ None → HaltsIn (shelf_phase stock on ∷ []) h
    → PutsPlay site file (Err h) o o
unmade_play stock first site on layout file h o e is short k =
    let not_short : short_kind stock on ≡ None = subst (λ (s : SiteData). short_kind stock s ≡ None) (sym is) (same_short stock layout first site e short) in
    subst (λ (x : Halt). PutsPlay site file (Err x) o o) (sym (only_memory stock on h not_short k)) (wants_play site file o)

-- the boxes of a world that was made, or not
pub made_boxes : (first site on : SiteData) (layout : ℕ) (answer : Result (Unit {0}) Halt) (old new : List Meaning) → first ≡ played 2 site → on ≡ played layout first → Taken old (line_uses on) new → ShelfBy (played 2 site) None answer old new
made_boxes first site on layout answer old new e is t =
    begun_shelf (played 2 site) answer old new (same_taken layout first site old new e (subst (λ (s : SiteData). Taken old (line_uses s) new) is t))

pub unmade_boxes : (stock new : List Meaning) (first site on : SiteData) (layout : ℕ) (h : Halt) → first ≡ played 2 site → on ≡ played layout first → short_kind stock first ≡ None → HaltsIn (shelf_phase stock on ∷ []) h → new ≡ stock
    → ShelfBy (played 2 site) None (Err h) stock new
unmade_boxes stock new first site on layout h e is short k same =
    let not_short : short_kind stock on ≡ None = subst (λ (s : SiteData). short_kind stock s ≡ None) (sym is) (same_short stock layout first site e short) in
    subst (λ (x : Halt). ShelfBy (played 2 site) None (Err x) stock new) (sym (only_memory stock on h not_short k)) (inl same)

-- ---- the file of a name, where the shelf is not short

module _ (stock : List Meaning) (site : SiteData) (log : List ℕ) (short : short_kind stock (played 2 site) ≡ None) where
  abbrev Given : (List ℕ → Option (List ℕ)) → Result (List ℕ) Halt → Type 0
  Given all answer = GivesBytes log_limit (halt.LogRefused log_limit) log (all log) answer

  abbrev before : (List ℕ → Option (List ℕ)) → List Phase
  before all = shelf_phase stock (played 2 site) ∷ columns_phase all log ∷ []

  none_short : (shelf_phase stock (played 2 site)).halts ≡ None
  none_short = ap (option_map (short_halt stock (played 2 site))) short

  -- the file is not too large
  small_log : (all : List ℕ → Option (List ℕ)) (file : List ℕ) → Given all (Ok file) → (columns_phase all log).halts ≡ None
  small_log all file k =
      let small : nat_lt log_limit (length file) ≡ false = grind (arith, nat_tests, k.1) in
      let judged : within log_limit (halt.LogRefused log_limit) (λ b. None) file ≡ None = rw small refl in
      ap (file_halt log (within log_limit (halt.LogRefused log_limit) (λ b. None))) k.0 ∙ judged

  none_before : (all : List ℕ → Option (List ℕ)) (file : List ℕ) → Given all (Ok file) → first_halt (before all) ≡ None
  none_before all file k = none_both (shelf_phase stock (played 2 site)) (columns_phase all log) none_short (small_log all file k)

  pub log_performs : (told : Option (List ℕ → Option (List ℕ))) (file : List ℕ) (answer : Result (Unit {0}) Halt) (old new : Outside)
      → IfSome told (λ all. Given all (Ok file)) → PutsPlay site file answer old new → IfSome told (λ all. PerformsPlay stock all site log answer old new)
  log_performs None file answer old new k p = tt
  log_performs (Some all) file answer old new k p =
      let after = packets_phase file ∷ [] in
      subst (λ (f : Option (List ℕ)). PerformsOf (before all ++ packets_phase (bytes_of f) ∷ []) (IsPlay site (bytes_of f)) answer old new) (sym k.0)
      (record {
        acts = p.acts;
        due = p.due;
        is = due_past (before all) after (IsPlay site file) p.acts p.due (none_before all file k) p.is;
        does = does_of (IsReadFirst (before all ++ after)) p.acts p.due answer old new (play_of_no_file site file p.acts p.due p.is) p.does;
      })

  -- it is not read
  unread : (all : List ℕ → Option (List ℕ)) (h : Halt) → Given all (Err h) → HaltsIn (play_phases_of stock all site log) h
  unread all h k =
      past (shelf_phase stock (played 2 site) ∷ []) (log_phases all log) h (none_alone (shelf_phase stock (played 2 site)) none_short)
      (here (columns_phase all log) (packets_phase (bytes_of (all log)) ∷ []) h (k (λ bytes. None)))

  pub log_fails : (told : Option (List ℕ → Option (List ℕ))) (h : Halt) (o : Outside) → IfSome told (λ all. Given all (Err h)) → IfSome told (λ all. PerformsPlay stock all site log (Err h) o o)
  log_fails None h o k = tt
  log_fails (Some all) h o k = halts_here (play_phases_of stock all site log) (IsPlay site (bytes_of (all log))) (some_play site (bytes_of (all log))) h o (unread all h k)

  pub log_leaves : (told : Option (List ℕ → Option (List ℕ))) (file : List ℕ) (answer : Result (Unit {0}) Halt) (new : List Meaning)
      → IfSome told (λ all. Given all (Ok file)) → ShelfBy (played 2 site) (packets_halt (kind_of file)) answer stock new → IfSome told (λ all. LeavesPlay all site log answer stock new)
  log_leaves None file answer new k s = tt
  log_leaves (Some all) file answer new k s =
      let first : first_halt (before all ++ packets_phase file ∷ []) ≡ packets_halt (kind_of file) =
      first_past (before all) (packets_phase file ∷ []) (none_before all file k) ∙ or_none (packets_halt (kind_of file)) in
      subst (λ (f : Option (List ℕ)). ShelfBy (played 2 site) (first_halt (before all ++ packets_phase (bytes_of f) ∷ [])) answer stock new) (sym k.0)
      (subst (λ (h : Option Halt). ShelfBy (played 2 site) h answer stock new) (sym first) s)
    where
      or_none : (h : Option Halt) → option_or h None ≡ h
      or_none None = refl
      or_none (Some h) = refl

  pub unread_leaves : (told : Option (List ℕ → Option (List ℕ))) (h : Halt) → IfSome told (λ all. Given all (Err h)) → IfSome told (λ all. LeavesPlay all site log (Err h) stock stock)
  unread_leaves None h k = tt
  unread_leaves (Some all) h k = unbegun_by (played 2 site) (play_phases_of stock all site log) h (first_halt (play_phases_of stock all site log)) stock stock refl (unread all h k) refl

-- ---- the shelf

pub shelf_performs : (stock : List Meaning) (site : SiteData) (log : List ℕ) (told : Option (List ℕ → Option (List ℕ))) (why : ChainFault) (o : Outside) → FaultIs stock (line_uses (played 2 site)) why
    → IfSome told (λ all. PerformsPlay stock all site log (Err (chain_halt why)) o o)
shelf_performs stock site log None why o f = tt
shelf_performs stock site log (Some all) why o f =
    halts_here (play_phases_of stock all site log) (IsPlay site (bytes_of (all log))) (some_play site (bytes_of (all log))) (chain_halt why) o
    (front (shelf_phase stock (played 2 site) ∷ []) (log_phases all log) (chain_halt why) (shelf_fails stock (played 2 site) why f).0)

pub shelf_leaves : (stock : List Meaning) (site : SiteData) (log : List ℕ) (told : Option (List ℕ → Option (List ℕ))) (why : ChainFault) → FaultIs stock (line_uses (played 2 site)) why
    → IfSome told (λ all. LeavesPlay all site log (Err (chain_halt why)) stock stock)
shelf_leaves stock site log None why f = tt
shelf_leaves stock site log (Some all) why f =
    unbegun_by (played 2 site) (play_phases_of stock all site log) (chain_halt why) (first_halt (play_phases_of stock all site log)) stock stock refl
    (front (shelf_phase stock (played 2 site) ∷ []) (log_phases all log) (chain_halt why) (shelf_fails stock (played 2 site) why f).0) refl

-- ---- definitions and the site, and then the shelf and the file

module _ (stock : List Meaning) (definitions site log : List ℕ) where
  abbrev command : Command
  command = Play definitions site log

  abbrev of : (List ℕ → Option (List ℕ)) → SiteData
  of all = site_asked all definitions site

  pub play_performs : (told second : Option (List ℕ → Option (List ℕ))) (x : SiteData × List ℕ) (answer : Result (Unit {0}) Halt) (old new : Outside) → second ≡ told
      → IfSome told (λ all. TakesSite all definitions site (Ok x)) → IfSome second (λ all. PerformsPlay stock all x.0 log answer old new) → IfSome told (λ all. Performs stock all command answer old new)
  play_performs None second x answer old new same s k = tt
  play_performs (Some all) second x answer old new same s k =
      let k' = subst (λ (t : Option (List ℕ → Option (List ℕ))). IfSome t (λ all. PerformsPlay stock all x.0 log answer old new)) same k in
      let k'' = subst (λ (y : SiteData × List ℕ). PerformsPlay stock all y.0 log answer old new) s.1 k' in
      performs_past (site_phases all definitions site) (play_phases_of stock all (of all) log) (IsDone all command) answer old new s.0 k''

  pub play_unloaded : (told : Option (List ℕ → Option (List ℕ))) (h : Halt) (o : Outside) → IfSome told (λ all. TakesSite all definitions site (Err h)) → IfSome told (λ all. Performs stock all command (Err h) o o)
  play_unloaded None h o k = tt
  play_unloaded (Some all) h o k =
      halts_here (play_phases stock all definitions site log) (IsDone all command) (some_play (of all) (bytes_of (all log))) h o (front (site_phases all definitions site) (play_phases_of stock all (of all) log) h k)

  -- memory was wanted
  pub play_wants : (told : Option (List ℕ → Option (List ℕ))) (o : Outside) → IfSome told (λ all. Performs stock all command (Err halt.Memory) o o)
  play_wants None o = tt
  play_wants (Some all) o = halts_here (play_phases stock all definitions site log) (IsDone all command) (some_play (of all) (bytes_of (all log))) halt.Memory o tt

  pub play_leaves : (told second : Option (List ℕ → Option (List ℕ))) (x : SiteData × List ℕ) (answer : Result (Unit {0}) Halt) (new : List Meaning) → second ≡ told
      → IfSome told (λ all. TakesSite all definitions site (Ok x)) → IfSome second (λ all. LeavesPlay all x.0 log answer stock new) → IfSome told (λ all. CommandLeaves all command answer stock new)
  play_leaves None second x answer new same s k = tt
  play_leaves (Some all) second x answer new same s k =
      let k' = subst (λ (t : Option (List ℕ → Option (List ℕ))). IfSome t (λ all. LeavesPlay all x.0 log answer stock new)) same k in
      let k'' = subst (λ (y : SiteData × List ℕ). LeavesPlay all y.0 log answer stock new) s.1 k' in
      let first : first_halt (play_phases stock all definitions site log) ≡ first_halt (play_phases_of stock all (of all) log) = first_past (site_phases all definitions site) (play_phases_of stock all (of all) log) s.0 in
      subst (λ (h : Option Halt). ShelfBy (played 2 (of all)) h answer stock new) (sym first) k''

  pub unloaded_leaves : (told : Option (List ℕ → Option (List ℕ))) (h : Halt) → IfSome told (λ all. TakesSite all definitions site (Err h)) → IfSome told (λ all. CommandLeaves all command (Err h) stock stock)
  unloaded_leaves None h k = tt
  unloaded_leaves (Some all) h k =
      unbegun_by (played 2 (of all)) (play_phases stock all definitions site log) h (first_halt (play_phases stock all definitions site log)) stock stock refl
      (front (site_phases all definitions site) (play_phases_of stock all (of all) log) h k) refl

  pub wants_leaves : (told : Option (List ℕ → Option (List ℕ))) → IfSome told (λ all. CommandLeaves all command (Err halt.Memory) stock stock)
  wants_leaves None = tt
  wants_leaves (Some all) = unbegun_by (played 2 (of all)) (play_phases stock all definitions site log) halt.Memory (first_halt (play_phases stock all definitions site log)) stock stock refl tt refl

  -- the definitions of the site have such names
  pub play_keeps : (told : Option (List ℕ → Option (List ℕ))) (x : SiteData × List ℕ) (answer : Result (Unit {0}) Halt) → IfSome told (λ all. TakesSite all definitions site (Ok x)) → HaveNames x.0.definitions → IfSome told (λ all. CommandKeeps all (Play definitions site log) answer)
  play_keeps None x answer s names = tt
  play_keeps (Some all) x (Ok done) s names = subst (λ (y : SiteData × List ℕ). HaveNames y.0.definitions) s.1 names
  play_keeps (Some all) x (Err h) s names = tt

  pub fails_keep : (told : Option (List ℕ → Option (List ℕ))) (h : Halt) → IfSome told (λ all. CommandKeeps all (Play definitions site log) (Err h))
  fails_keep None h = tt
  fails_keep (Some all) h = tt
