-- What a command answers and does, from its phases.
use Rattle.std.proofs.Common.{◌≡◌, ◌≢◌, ℕ, Bool, true, false, List, [], ◌∷◌, ◌++◌, length, take, Option, Some, None, option_map, IfSome, MatchOption, Result, Ok, Err, refl, sym, ◌∙◌, ap, subst, arith, ◌⊎◌, inl, inr}
use Rattle.std.specs.Prelude.{nat_eq}
use Rattle.std.proofs.Math.Seq.{take-length}
use Rattle.cts_chain.specs.Builds.{FaultIs, Taken}
use Rattle.cts_chain.specs.declared.build.ChainFault.{ChainFault}
use Rattle.cts_chain.specs.declared.build.ChainFault.TheVariants as chain
use Rattle.cts_core_laws.proofs.OneRun.{has_run}
use Rattle.cts_core_laws.proofs.SiteSound.{site_sound}
use Rattle.cts_connection.specs.LineChains.{line_uses}
use Rattle.cts_core.specs.Environments.{basis_of, site_environment}
use Rattle.cts_core.specs.Runs.{Did, Ending, Finished, NotEnabled, HistoryFull}
use Rattle.cts_core.specs.States.{opening}
use Rattle.cts_def.specs.Sites.{IsSoundSite, SiteData}
use Rattle.cts_entry.specs.declared.event.Event.{Event}
use Rattle.cts_framing.specs.Patterns.{begins as starts}
use Rattle.cts_outside.specs.Causes.{Rose, Steady}
use Rattle.cts_outside.specs.Seen.{FilesSeen, SinkSeen, VaultSeen}
use Rattle.cts_proto.specs.Meaning.{Meaning}
use Rattle.cts_proto.specs.Stock.{stocked}
use Rattle.cts_rehearsal.specs.Generated.{generated}
use Rattle.cts_run.specs.Acts.{Act, AreDone, DoesAll, EndsWith, LogFails, Outside, PutFails, outside, puts}
use Rattle.cts_run.specs.Causes.{chain_halt, put_answer}
use Rattle.cts_run.specs.Command.{Answers, CommandKeeps, CommandLeaves, Completes, DoesFor, DoesOf, DumpsFile, IsDone, IsDueOf, IsReadFirst, IsReadIn, Keeps, HubKeepsBy, LeavesShelf, Outcome, Performs, PerformsOf, PerformsScript, ShelfAfter, ShelfAt, ShelfBy, HalfTaken, HalfTakenAt, first_phases, misused, outcome_of, phases}
use Rattle.cts_run.specs.Demo.{definitions_name, demo_files, demo_site, site_name}
use Rattle.cts_run.specs.Dump.{IsDump, PutsFile, dump_answer, other_head}
use Rattle.cts_run.specs.Endings.{Ends, EndsHalted, halt_line, halt_status, refused_as}
use Rattle.cts_run.specs.Lines.{counts_line, log_fault_line, memory_line, read_fault_line, usage_line}
use Rattle.cts_run.specs.Load.{bytes_of, definitions_asked, digest_asked, events_asked, script_phase, site_asked, site_phases}
use Rattle.cts_run.specs.Load.Files.{GivesBytes, log_limit}
use Rattle.cts_run.specs.Phases.{FileCounts, HaltsAt, HaltsIn, IsFound, Phase, Takes, TakesAt, answer_seen, first_halt, is_fault}
use Rattle.cts_play.specs.Played.{played}
use Rattle.cts_run.specs.Play.{play_phases}
use Rattle.cts_run.specs.Hub.{HubKeptOf, ends_of, joint, tied_phases}
use Rattle.cts_run.specs.declared.hub.ends.Ends.{Ends as HubEnds}
use Rattle.cts_run.specs.Putting.{Printed, PutsText, SinkCounts, VaultCounts}
use Rattle.cts_run.specs.Rehearsal.{IsRehearsal, Rehearses, rehearsal_acts, rehearsal_answer}
use Rattle.cts_run.specs.Replay.{IsReplay, Replays, replay_acts, replay_answer}
use Rattle.cts_run.specs.Start.{shelf_phase, short_halt, short_kind}
use Rattle.cts_run.specs.Transcript.{events_of}
use Rattle.cts_run.specs.declared.halt.Halt.{Halt}
use Rattle.cts_run.specs.declared.halt.Halt.TheVariants as halt
use Rattle.cts_run.specs.declared.halt.cause.Cause.{Cause}
use Rattle.cts_run.specs.declared.halt.file_kind.FileKind.{FileKind}
use Rattle.cts_run.specs.declared.halt.file_kind.FileKind.TheVariants.{Configuration, Script}
use Rattle.cts_run.specs.declared.halt.status.Status.{Status}
use Rattle.cts_run.specs.declared.halt.status.Status.TheVariants as is
use Rattle.cts_run.specs.declared.putting.Undone.{Undone}
use Rattle.cts_run.specs.declared.words.Command.{Command}
use Rattle.cts_run.specs.declared.words.Command.TheVariants.{Check, Replay, Rehearse, Dump, Play, Extract, Hub}
use Rattle.cts_run.proofs.ActLemmas.{all_of, put_done, sink_of, vault_of}
use Rattle.cts_run.proofs.DumpedLemmas.{IsFileDue, another_head, file_dumped, same_head, some_dumped}
use Rattle.cts_run.proofs.EndingLemmas.{ends_with, fails_still}
use Rattle.cts_run.proofs.ExtractLemmas.{some_table}
use Rattle.cts_run.proofs.EndsLemmas.{ends_fit}
use Rattle.cts_run.proofs.HubLemmas.{some_hub_of}
use Rattle.cts_run.proofs.LoadLemmas.{site_asked_sound}
use Rattle.cts_run.proofs.LogLemmas.{replay_is}
use Rattle.cts_run.proofs.PlayedLemmas.{some_play}
use Rattle.cts_run.proofs.PhaseLemmas.{first_past, front, here, none_alone, past, read_past}

-- acts and an end of which this holds
abbrev Some_due : (List Act → Result (Unit {0}) Halt → Type 0) → Type 0
Some_due done = (acts : List Act) × (due : Result (Unit {0}) Halt) × done acts due

-- ---- a command halts at a phase, or goes on after it

due_by : (h : Option Halt) (done : List Act → Result (Unit {0}) Halt → Type 0) → Some_due done
    → Some_due (λ acts due. MatchOption h (done acts due) (λ halt. (acts ≡ []) × (due ≡ Err halt)))
due_by (Some h) done some = ([], Err h, (refl, refl))
due_by None done some = some

pub some_due : (ps : List Phase) (done : List Act → Result (Unit {0}) Halt → Type 0) → Some_due done → Some_due (IsDueOf ps done)
some_due ps done some = due_by (first_halt ps) done some

is_due : (ps : List Phase) (done : List Act → Result (Unit {0}) Halt → Type 0) (acts : List Act) (due : Result (Unit {0}) Halt) (first : Option Halt) → first_halt ps ≡ first
    → MatchOption first (done acts due) (λ x. (acts ≡ []) × (due ≡ Err x)) → IsDueOf ps done acts due
is_due ps done acts due first e m = subst (λ (o : Option Halt). MatchOption o (done acts due) (λ x. (acts ≡ []) × (due ≡ Err x))) (sym e) m

pub halts_so : (ps : List Phase) (done : List Act → Result (Unit {0}) Halt → Type 0) (h : Halt) → first_halt ps ≡ Some h → IsDueOf ps done [] (Err h)
halts_so ps done h e = is_due ps done [] (Err h) (Some h) e (refl, refl)

pub goes_so : (ps : List Phase) (done : List Act → Result (Unit {0}) Halt → Type 0) (acts : List Act) (due : Result (Unit {0}) Halt) → first_halt ps ≡ None → done acts due → IsDueOf ps done acts due
goes_so ps done acts due e k = is_due ps done acts due None e k

pub halts_here : (ps : List Phase) (done : List Act → Result (Unit {0}) Halt → Type 0) → Some_due done → (h : Halt) (o : Outside) → HaltsIn ps h → PerformsOf ps done (Err h) o o
halts_here ps done some halt.Memory o k = let d = some_due ps done some in record { acts = d.0; due = d.1; is = d.2; does = (0, refl) }
halts_here ps done some (halt.ReadFault name) o k = let d = some_due ps done some in record { acts = d.0; due = d.1; is = d.2; does = (0, (refl, k), refl) }
halts_here ps done some (halt.Absent name) o k = record { acts = []; due = Err (halt.Absent name); is = halts_so ps done (halt.Absent name) k; does = (refl, refl) }
halts_here ps done some halt.WriteFault o k = absurd k
halts_here ps done some halt.LogFault o k = absurd k
halts_here ps done some (halt.Refused name kind line cause) o k = record { acts = []; due = Err (halt.Refused name kind line cause); is = halts_so ps done (halt.Refused name kind line cause) k; does = (refl, refl) }
halts_here ps done some (halt.ShelfEmpty kind needed stocked) o k = record { acts = []; due = Err (halt.ShelfEmpty kind needed stocked); is = halts_so ps done (halt.ShelfEmpty kind needed stocked) k; does = (refl, refl) }
halts_here ps done some (halt.HistoryFull entries bytes) o k = record { acts = []; due = Err (halt.HistoryFull entries bytes); is = halts_so ps done (halt.HistoryFull entries bytes) k; does = (refl, refl) }
halts_here ps done some (halt.LogRefused place) o k = record { acts = []; due = Err (halt.LogRefused place); is = halts_so ps done (halt.LogRefused place) k; does = (refl, refl) }
halts_here ps done some (halt.UnknownName name) o k = record { acts = []; due = Err (halt.UnknownName name); is = halts_so ps done (halt.UnknownName name) k; does = (refl, refl) }
halts_here ps done some (halt.HubRefused cause) o k = record { acts = []; due = Err (halt.HubRefused cause); is = halts_so ps done (halt.HubRefused cause) k; does = (refl, refl) }
halts_here ps done some halt.Misused o k = record { acts = []; due = Err halt.Misused; is = halts_so ps done halt.Misused k; does = (refl, refl) }

-- phases in front that have no reason to halt
does_past : (ps qs : List Phase) (acts : List Act) (due answer : Result (Unit {0}) Halt) (old new : Outside) → first_halt ps ≡ None → DoesOf (IsReadFirst qs) acts due answer old new → DoesOf (IsReadFirst (ps ++ qs)) acts due answer old new
does_past ps qs acts due (Ok done) old new e k = k
does_past ps qs acts due (Err halt.Memory) old new e k = k
does_past ps qs acts due (Err (halt.ReadFault name)) old new e k = (k.0, (k.1.0, read_past ps qs name e k.1.1), k.2)
does_past ps qs acts due (Err (halt.Absent name)) old new e k = k
does_past ps qs acts due (Err halt.WriteFault) old new e k = k
does_past ps qs acts due (Err halt.LogFault) old new e k = k
does_past ps qs acts due (Err (halt.Refused name kind line cause)) old new e k = k
does_past ps qs acts due (Err (halt.ShelfEmpty kind needed stocked)) old new e k = k
does_past ps qs acts due (Err (halt.HistoryFull entries bytes)) old new e k = k
does_past ps qs acts due (Err (halt.LogRefused place)) old new e k = k
does_past ps qs acts due (Err (halt.UnknownName name)) old new e k = k
does_past ps qs acts due (Err (halt.HubRefused cause)) old new e k = k
does_past ps qs acts due (Err halt.Misused) old new e k = k

pub due_past : (ps qs : List Phase) (done : List Act → Result (Unit {0}) Halt → Type 0) (acts : List Act) (due : Result (Unit {0}) Halt) → first_halt ps ≡ None → IsDueOf qs done acts due → IsDueOf (ps ++ qs) done acts due
due_past ps qs done acts due e k = subst (λ (o : Option Halt). MatchOption o (done acts due) (λ x. (acts ≡ []) × (due ≡ Err x))) (sym (first_past ps qs e)) k

pub performs_past : (ps qs : List Phase) (done : List Act → Result (Unit {0}) Halt → Type 0) (answer : Result (Unit {0}) Halt) (old new : Outside) → first_halt ps ≡ None → PerformsOf qs done answer old new → PerformsOf (ps ++ qs) done answer old new
performs_past ps qs done answer old new e k = record { acts = k.acts; due = k.due; is = due_past ps qs done k.acts k.due e k.is; does = does_past ps qs k.acts k.due answer old new e k.does }

-- what is done is named otherwise
due_as : (first : Option Halt) (done done' : List Act → Result (Unit {0}) Halt → Type 0) (acts : List Act) (due : Result (Unit {0}) Halt) → (done acts due → done' acts due)
    → MatchOption first (done acts due) (λ x. (acts ≡ []) × (due ≡ Err x)) → MatchOption first (done' acts due) (λ x. (acts ≡ []) × (due ≡ Err x))
due_as (Some h) done done' acts due renames m = m
due_as None done done' acts due renames m = renames m

performs_as : (ps : List Phase) (done done' : List Act → Result (Unit {0}) Halt → Type 0) (answer : Result (Unit {0}) Halt) (old new : Outside) → ((acts : List Act) (due : Result (Unit {0}) Halt) → done acts due → done' acts due)
    → PerformsOf ps done answer old new → PerformsOf ps done' answer old new
performs_as ps done done' answer old new renames k = record { acts = k.acts; due = k.due; is = due_as (first_halt ps) done done' k.acts k.due (renames k.acts k.due) k.is; does = k.does }

-- ---- what acts leave of the counts of files

-- it is no fault of a file
abbrev pub OfNoFile : Result (Unit {0}) Halt → Type 0
OfNoFile (Ok done) = Unit {0}
OfNoFile (Err (halt.ReadFault name)) = ⊥
OfNoFile (Err (halt.Absent name)) = ⊥
OfNoFile (Err h) = Unit {0}

pub does_of : (reads : List Act → List ℕ → Type 0) (acts : List Act) (due answer : Result (Unit {0}) Halt) (old new : Outside) (own : OfNoFile due) → DoesAll acts due answer old new → DoesOf reads acts due answer old new
does_of reads acts due (Ok done) old new own k = k
does_of reads acts due (Err halt.Memory) old new own k = k
does_of reads acts due (Err (halt.ReadFault name)) old new own k = absurd (subst OfNoFile (sym k.0) own)
does_of reads acts due (Err (halt.Absent name)) old new own k = k
does_of reads acts due (Err halt.WriteFault) old new own k = k
does_of reads acts due (Err halt.LogFault) old new own k = k
does_of reads acts due (Err (halt.Refused name kind line cause)) old new own k = k
does_of reads acts due (Err (halt.ShelfEmpty kind needed stocked)) old new own k = k
does_of reads acts due (Err (halt.HistoryFull entries bytes)) old new own k = k
does_of reads acts due (Err (halt.LogRefused place)) old new own k = k
does_of reads acts due (Err (halt.UnknownName name)) old new own k = k
does_of reads acts due (Err (halt.HubRefused cause)) old new own k = k
does_of reads acts due (Err halt.Misused) old new own k = k

pub counts_of : (acts : List Act) (due answer : Result (Unit {0}) Halt) (old new : Outside) (files files' : FilesSeen) → OfNoFile due → DoesAll acts due answer old new → IsFound files files' → FileCounts answer files files'
counts_of acts due (Ok done) old new files files' own k f = f
counts_of acts due (Err halt.Memory) old new files files' own k f = f
counts_of acts due (Err (halt.ReadFault name)) old new files files' own k f = absurd (subst OfNoFile (sym k.0) own)
counts_of acts due (Err (halt.Absent name)) old new files files' own k f = absurd (subst OfNoFile (sym k.0) own)
counts_of acts due (Err halt.WriteFault) old new files files' own k f = f
counts_of acts due (Err halt.LogFault) old new files files' own k f = f
counts_of acts due (Err (halt.Refused name kind line cause)) old new files files' own k f = f
counts_of acts due (Err (halt.ShelfEmpty kind needed stocked)) old new files files' own k f = f
counts_of acts due (Err (halt.HistoryFull entries bytes)) old new files files' own k f = f
counts_of acts due (Err (halt.LogRefused place)) old new files files' own k f = f
counts_of acts due (Err (halt.UnknownName name)) old new files files' own k f = f
counts_of acts due (Err (halt.HubRefused cause)) old new files files' own k f = f
counts_of acts due (Err halt.Misused) old new files files' own k f = f

-- ---- a check

check_does : (text : List ℕ) (put : Result (Unit {0}) Undone) (old new : SinkSeen) (vault : VaultSeen) → PutsText text put old new → DoesAll (puts text) (Ok tt) (put_answer put) (outside old vault) (outside new vault)
check_does text put old new vault p = all_of (puts text) put (outside old vault) (outside new vault) (put_done text put old new vault p)

-- the count of a vault is not asked here
abbrev pub no_vault : VaultSeen
no_vault = record { told = None; faults = 0 }

pub check_counts : (text : List ℕ) (put : Result (Unit {0}) Undone) (old new : SinkSeen) (files files' : FilesSeen) → PutsText text put old new → IsFound files files' → FileCounts (put_answer put) files files'
check_counts text put old new files files' p f = counts_of (puts text) (Ok tt) (put_answer put) (outside old no_vault) (outside new no_vault) files files' tt (check_does text put old new no_vault p) f

pub check_faults : (text : List ℕ) (put : Result (Unit {0}) Undone) (old new : SinkSeen) → PutsText text put old new → SinkCounts (put_answer put) old new
check_faults text put old new p = sink_of (puts text) (Ok tt) (put_answer put) (outside old no_vault) (outside new no_vault) (check_does text put old new no_vault p)

-- a check puts one text, so that no log fails
pub check_logs : (text : List ℕ) (put : Result (Unit {0}) Undone) (old new : SinkSeen) (vault : VaultSeen) → PutsText text put old new → VaultCounts (put_answer put) vault vault
check_logs text put old new vault p = vault_of (puts text) (Ok tt) (put_answer put) (outside old vault) (outside new vault) (check_does text put old new vault p)

abbrev pub TakesSite : (List ℕ → Option (List ℕ)) → List ℕ → List ℕ → Result (SiteData × List ℕ) Halt → Type 0
TakesSite all definitions site answer = Takes (site_phases all definitions site) (site_asked all definitions site, digest_asked all definitions) answer

some_check : (all : List ℕ → Option (List ℕ)) (definitions site : List ℕ) → Some_due (IsDone all (Check definitions site))
some_check all definitions site = (puts (counts_line (site_asked all definitions site)), Ok tt, (refl, refl))

pub check_performs : (stock : List Meaning) (told : Option (List ℕ → Option (List ℕ))) (definitions site : List ℕ) (x : SiteData × List ℕ) (put : Result (Unit {0}) Undone) (old new : SinkSeen) (vault : VaultSeen)
    → IfSome told (λ all. TakesSite all definitions site (Ok x)) → PutsText (counts_line x.0) put old new → IfSome told (λ all. Performs stock all (Check definitions site) (put_answer put) (outside old vault) (outside new vault))
check_performs stock None definitions site x put old new vault s p = tt
check_performs stock (Some all) definitions site x put old new vault s p = record {
  acts = puts (counts_line x.0);
  due = Ok tt;
  is = goes_so (site_phases all definitions site) (IsDone all (Check definitions site)) (puts (counts_line x.0)) (Ok tt) s.0 (ap (λ (y : SiteData × List ℕ). puts (counts_line y.0)) s.1, refl);
  does = does_of (IsReadFirst (site_phases all definitions site)) (puts (counts_line x.0)) (Ok tt) (put_answer put) (outside old vault) (outside new vault) tt (check_does (counts_line x.0) put old new vault p);
}

pub check_fails : (stock : List Meaning) (told : Option (List ℕ → Option (List ℕ))) (definitions site : List ℕ) (h : Halt) (o : Outside)
    → IfSome told (λ all. TakesSite all definitions site (Err h)) → IfSome told (λ all. Performs stock all (Check definitions site) (Err h) o o)
check_fails stock None definitions site h o k = tt
check_fails stock (Some all) definitions site h o k = halts_here (site_phases all definitions site) (IsDone all (Check definitions site)) (some_check all definitions site) h o k

-- ---- a dump

dump_of_no_file : (file : List ℕ) (acts : List Act) (due : Result (Unit {0}) Halt) → IsDump file acts due → OfNoFile due
dump_of_no_file file acts due (inl a) = subst OfNoFile (sym a.due_is) (by_place a.place (nat_eq a.place (length file)) refl)
  where
    by_place : (place : ℕ) (whole : Bool) → nat_eq place (length file) ≡ whole → OfNoFile (dump_answer place (length file))
    by_place place true e = rw e tt
    by_place place false e = rw e tt
dump_of_no_file file acts due (inr a) = subst OfNoFile (sym a.refused) tt

-- a file among others
file_of_no_file : (head file : List ℕ) (so : Bool) (acts : List Act) (due : Result (Unit {0}) Halt) → starts head file ≡ so → IsFileDue file (other_head head file) acts due → OfNoFile due
file_of_no_file head file true acts due e m = dump_of_no_file file acts due (subst (λ (o : Option Halt). IsFileDue file o acts due) (same_head head file e) m)
file_of_no_file head file false acts due e m =
    let k = subst (λ (o : Option Halt). IsFileDue file o acts due) (another_head head file e) m in
    subst OfNoFile (sym k.1) tt

puts_no_file : (head file : List ℕ) (answer : Result (Unit {0}) Halt) (old new : Outside) (p : PutsFile head file answer old new) → OfNoFile p.due
puts_no_file head file answer old new p = file_of_no_file head file (starts head file) p.acts p.due refl p.is

pub file_counts : {T : Type 0} (head file : List ℕ) (answer : Result T Halt) (old new : Outside) (files files' : FilesSeen) → PutsFile head file (answer_seen (λ x. tt) answer) old new → IsFound files files' → FileCounts answer files files'
file_counts head file answer old new files files' p f = seen_counts answer files files' (counts_of p.acts p.due (answer_seen (λ x. tt) answer) old new files files' (puts_no_file head file _ old new p) p.does f)
  where
    seen_counts : {T : Type 0} (answer : Result T Halt) (files files' : FilesSeen) → FileCounts (answer_seen {T = Unit {0}} (λ x. tt) answer) files files' → FileCounts answer files files'
    seen_counts (Ok x) files files' k = k
    seen_counts (Err h) files files' k = k

pub file_faults : {T : Type 0} (head file : List ℕ) (answer : Result T Halt) (old new : Outside) → PutsFile head file (answer_seen (λ x. tt) answer) old new → SinkCounts answer old.out new.out
file_faults head file answer old new p = seen_faults answer old.out new.out (sink_of p.acts p.due (answer_seen (λ x. tt) answer) old new p.does)
  where
    seen_faults : {T : Type 0} (answer : Result T Halt) (out out' : SinkSeen) → SinkCounts (answer_seen {T = Unit {0}} (λ x. tt) answer) out out' → SinkCounts answer out out'
    seen_faults (Ok x) out out' k = k
    seen_faults (Err h) out out' k = k

pub file_logs : {T : Type 0} (head file : List ℕ) (answer : Result T Halt) (old new : Outside) → PutsFile head file (answer_seen (λ x. tt) answer) old new → VaultCounts answer old.vault new.vault
file_logs head file answer old new p = seen_logs answer old.vault new.vault (vault_of p.acts p.due (answer_seen (λ x. tt) answer) old new p.does)
  where
    seen_logs : {T : Type 0} (answer : Result T Halt) (vault vault' : VaultSeen) → VaultCounts (answer_seen {T = Unit {0}} (λ x. tt) answer) vault vault' → VaultCounts answer vault vault'
    seen_logs (Ok x) vault vault' k = k
    seen_logs (Err h) vault vault' k = k

pub told_dumps : (told : Option (List ℕ → Option (List ℕ))) (head log file : List ℕ) (answer : Result (Unit {0}) Halt) (old new : Outside)
    → IfSome told (λ all. GivesBytes log_limit (halt.LogRefused log_limit) log (all log) (Ok file)) → PutsFile head file answer old new → IfSome told (λ all. DumpsFile all head log answer old new)
told_dumps None head log file answer old new k p = tt
told_dumps (Some all) head log file answer old new k p = record {
  acts = p.acts;
  due = p.due;
  is = file_dumped all head log file p.acts p.due k.0 k.1 p.is;
  does = does_of (λ before name. (before ≡ []) × (log ≡ name)) p.acts p.due answer old new (puts_no_file head file answer old new p) p.does;
}

-- ---- a replay's world

not_short : (stock : List Meaning) (site : SiteData) → short_kind stock site ≡ None → (shelf_phase stock site).halts ≡ None
not_short stock site e = ap (option_map (short_halt stock site)) e

pub world_made : (stock : List Meaning) (site : SiteData) → short_kind stock site ≡ None → first_halt (shelf_phase stock site ∷ []) ≡ None
world_made stock site e = none_alone (shelf_phase stock site) (not_short stock site e)

pub shelf_fails : (stock : List Meaning) (site : SiteData) (why : ChainFault) → FaultIs stock (line_uses site) why
    → HaltsIn (shelf_phase stock site ∷ []) (chain_halt why) × (is_fault (chain_halt why) ≡ false)
shelf_fails stock site chain.Memory f = (tt, refl)
shelf_fails stock site (chain.ShelfEmpty kind n there) f =
    let due : short_halt stock site kind ≡ halt.ShelfEmpty kind n there = ap (λ (m : ℕ). halt.ShelfEmpty kind m (stocked kind stock)) (sym f.1) ∙ ap (λ (m : ℕ). halt.ShelfEmpty kind n m) (sym f.2) in
    let short : (shelf_phase stock site).halts ≡ Some (halt.ShelfEmpty kind n there) = ap (option_map (short_halt stock site)) f.0 ∙ ap (λ (h : Halt). Some h) due in
    (here (shelf_phase stock site) [] (halt.ShelfEmpty kind n there) short, refl)

-- ---- a script

some_replay : (digest : List ℕ) (site : SiteData) (script : List ℕ) (events : List (ℕ × Event)) → IsSoundSite site → Some_due (IsReplay digest site script events)
some_replay digest site script events sound =
    let run = has_run (site_environment site) (site_sound (basis_of site)) opening (events_of events) in
    (replay_acts digest site events run.0 run.1, replay_answer script events run.0 run.1, replay_is digest site script events run.0 run.1 sound run.2)

replay_of_no_file : (script : List ℕ) (events : List (ℕ × Event)) (dids : List Did) (ending : Ending) → OfNoFile (replay_answer script events dids ending)
replay_of_no_file script events dids Finished = tt
replay_of_no_file script events dids NotEnabled = tt
replay_of_no_file script events dids HistoryFull = tt

pub script_fails : (told : Option (List ℕ → Option (List ℕ))) (digest : List ℕ) (site : SiteData) (script : List ℕ) (h : Halt) (o : Outside)
    → IsSoundSite site → IfSome told (λ all. HaltsAt (script_phase all site script) h) → IfSome told (λ all. PerformsScript all digest site script (Err h) o o)
script_fails None digest site script h o sound k = tt
script_fails (Some all) digest site script h o sound k =
    halts_here (script_phase all site script ∷ []) (IsReplay digest site script (events_asked all site script)) (some_replay digest site script (events_asked all site script) sound) h o
    (here (script_phase all site script) [] h k)

pub script_replays : (told : Option (List ℕ → Option (List ℕ))) (digest : List ℕ) (site : SiteData) (script : List ℕ) (events : List (ℕ × Event)) (answer : Result (Unit {0}) Halt) (old new : Outside)
    → IsSoundSite site → IfSome told (λ all. TakesAt (script_phase all site script) (events_asked all site script) (Ok events)) → Replays digest site script events answer old new → IfSome told (λ all. PerformsScript all digest site script answer old new)
script_replays None digest site script events answer old new sound t k = tt
script_replays (Some all) digest site script events answer old new sound t k =
    let acts = replay_acts digest site events k.dids k.ending in
    let due = replay_answer script events k.dids k.ending in
    record {
      acts = acts;
      due = due;
      is = goes_so (script_phase all site script ∷ []) (IsReplay digest site script (events_asked all site script)) acts due (none_alone (script_phase all site script) t.0)
          (subst (λ (es : List (ℕ × Event)). IsReplay digest site script es acts due) t.1 (replay_is digest site script events k.dids k.ending sound k.runs));
      does = does_of (IsReadFirst (script_phase all site script ∷ [])) acts due answer old new (replay_of_no_file script events k.dids k.ending) k.does;
    }

pub script_counts : (digest : List ℕ) (site : SiteData) (script : List ℕ) (events : List (ℕ × Event)) (answer : Result (Unit {0}) Halt) (old new : Outside) (files files' : FilesSeen)
    → Replays digest site script events answer old new → IsFound files files' → FileCounts answer files files'
script_counts digest site script events answer old new files files' k f =
    counts_of (replay_acts digest site events k.dids k.ending) (replay_answer script events k.dids k.ending) answer old new files files' (replay_of_no_file script events k.dids k.ending) k.does f

pub script_faults : (digest : List ℕ) (site : SiteData) (script : List ℕ) (events : List (ℕ × Event)) (answer : Result (Unit {0}) Halt) (old new : Outside) → Replays digest site script events answer old new → SinkCounts answer old.out new.out
script_faults digest site script events answer old new k = sink_of (replay_acts digest site events k.dids k.ending) (replay_answer script events k.dids k.ending) answer old new k.does

pub script_logs : (digest : List ℕ) (site : SiteData) (script : List ℕ) (events : List (ℕ × Event)) (answer : Result (Unit {0}) Halt) (old new : Outside) → Replays digest site script events answer old new → VaultCounts answer old.vault new.vault
script_logs digest site script events answer old new k = vault_of (replay_acts digest site events k.dids k.ending) (replay_answer script events k.dids k.ending) answer old new k.does

-- ---- a replay

module _ (stock : List Meaning) (definitions site script : List ℕ) where
  abbrev after_site : (List ℕ → Option (List ℕ)) → List Phase
  after_site all = shelf_phase stock (site_asked all definitions site) ∷ script_phase all (site_asked all definitions site) script ∷ []

  some_done : (all : List ℕ → Option (List ℕ)) → Some_due (IsDone all (Replay definitions site script))
  some_done all = some_replay (digest_asked all definitions) (site_asked all definitions site) script (events_asked all (site_asked all definitions site) script)
      (site_asked_sound all definitions site)

  pub replay_unloaded : (told : Option (List ℕ → Option (List ℕ))) (h : Halt) (o : Outside)
      → IfSome told (λ all. TakesSite all definitions site (Err h)) → IfSome told (λ all. Performs stock all (Replay definitions site script) (Err h) o o)
  replay_unloaded None h o k = tt
  replay_unloaded (Some all) h o k =
      halts_here (phases stock all (Replay definitions site script)) (IsDone all (Replay definitions site script)) (some_done all) h o (front (site_phases all definitions site) (after_site all) h k)

  pub replay_unmade : (told : Option (List ℕ → Option (List ℕ))) (x : SiteData × List ℕ) (h : Halt) (o : Outside)
      → IfSome told (λ all. TakesSite all definitions site (Ok x)) → HaltsIn (shelf_phase stock x.0 ∷ []) h → IfSome told (λ all. Performs stock all (Replay definitions site script) (Err h) o o)
  replay_unmade None x h o s k = tt
  replay_unmade (Some all) x h o s k =
      let k' = subst (λ (y : SiteData × List ℕ). HaltsIn (shelf_phase stock y.0 ∷ []) h) s.1 k in
      halts_here (phases stock all (Replay definitions site script)) (IsDone all (Replay definitions site script)) (some_done all) h o
      (past (site_phases all definitions site) (after_site all) h s.0 (front (shelf_phase stock (site_asked all definitions site) ∷ []) (script_phase all (site_asked all definitions site) script ∷ []) h k'))

  pub replay_performs : (told second : Option (List ℕ → Option (List ℕ))) (x : SiteData × List ℕ) (y : SiteData) (answer : Result (Unit {0}) Halt) (old new : Outside) → second ≡ told → y ≡ x.0
      → IfSome told (λ all. TakesSite all definitions site (Ok x)) → first_halt (shelf_phase stock x.0 ∷ []) ≡ None → IfSome second (λ all. PerformsScript all x.1 y script answer old new)
      → IfSome told (λ all. Performs stock all (Replay definitions site script) answer old new)
  replay_performs None second x y answer old new same on s w k = tt
  replay_performs (Some all) second x y answer old new same on s w k =
      let k' = subst (λ (t : Option (List ℕ → Option (List ℕ))). IfSome t (λ all. PerformsScript all x.1 y script answer old new)) same k in
      let on_site = subst (λ (t : SiteData). PerformsScript all x.1 t script answer old new) on k' in
      let k'' = subst (λ (t : SiteData × List ℕ). PerformsScript all t.1 t.0 script answer old new) s.1 on_site in
      let w' = subst (λ (t : SiteData × List ℕ). first_halt (shelf_phase stock t.0 ∷ []) ≡ None) s.1 w in
      performs_past (site_phases all definitions site) (after_site all) (IsDone all (Replay definitions site script)) answer old new s.0
      (performs_past (shelf_phase stock (site_asked all definitions site) ∷ []) (script_phase all (site_asked all definitions site) script ∷ []) (IsDone all (Replay definitions site script)) answer old new w'
      (performs_as (script_phase all (site_asked all definitions site) script ∷ []) (IsReplay (digest_asked all definitions) (site_asked all definitions site) script (events_asked all (site_asked all definitions site) script)) (IsDone all (Replay definitions site script)) answer old new (λ acts due r. r) k''))

-- ---- a rehearsal

some_rehearsal : (site : SiteData) (n : ℕ) → Some_due (IsRehearsal site n)
some_rehearsal site n =
    let run = has_run (site_environment site) (site_sound (basis_of site)) opening (generated n) in
    (rehearsal_acts site run.0 run.1, rehearsal_answer run.0 run.1, record { dids = run.0; ending = run.1; runs = run.2; acts_are = refl; due_is = refl })

rehearsal_of_no_file : (dids : List Did) (ending : Ending) → OfNoFile (rehearsal_answer dids ending)
rehearsal_of_no_file dids Finished = tt
rehearsal_of_no_file dids NotEnabled = tt
rehearsal_of_no_file dids HistoryFull = tt

module _ (stock : List Meaning) (n : ℕ) (files : List ℕ → Option (List ℕ)) where
  abbrev begins : List Phase
  begins = site_phases demo_files definitions_name site_name

  some_rehearsed : Some_due (IsDone files (Rehearse n))
  some_rehearsed = some_rehearsal demo_site n

  pub rehearse_unloaded : (h : Halt) (o : Outside) → TakesSite demo_files definitions_name site_name (Err h) → Performs stock files (Rehearse n) (Err h) o o
  rehearse_unloaded h o k = halts_here (phases stock files (Rehearse n)) (IsDone files (Rehearse n)) some_rehearsed h o (front begins (shelf_phase stock demo_site ∷ []) h k)

  pub rehearse_unmade : (x : SiteData × List ℕ) (h : Halt) (o : Outside) → TakesSite demo_files definitions_name site_name (Ok x) → HaltsIn (shelf_phase stock x.0 ∷ []) h → Performs stock files (Rehearse n) (Err h) o o
  rehearse_unmade x h o s k =
      halts_here (phases stock files (Rehearse n)) (IsDone files (Rehearse n)) some_rehearsed h o
      (past begins (shelf_phase stock demo_site ∷ []) h s.0 (subst (λ (y : SiteData × List ℕ). HaltsIn (shelf_phase stock y.0 ∷ []) h) s.1 k))

  pub rehearse_performs : (x : SiteData × List ℕ) (y : SiteData) (answer : Result (Unit {0}) Halt) (old new : Outside) → y ≡ x.0 → TakesSite demo_files definitions_name site_name (Ok x) → first_halt (shelf_phase stock x.0 ∷ []) ≡ None
      → Rehearses y n answer old new → Performs stock files (Rehearse n) answer old new
  rehearse_performs x y answer old new on s w k0 =
      let k = subst (λ (t : SiteData × List ℕ). Rehearses t.0 n answer old new) s.1 (subst (λ (t : SiteData). Rehearses t n answer old new) on k0) in
      let none : first_halt (first_phases stock demo_files definitions_name site_name) ≡ None =
      first_past begins (shelf_phase stock demo_site ∷ []) s.0 ∙ subst (λ (t : SiteData × List ℕ). first_halt (shelf_phase stock t.0 ∷ []) ≡ None) s.1 w in
      let acts = rehearsal_acts demo_site k.dids k.ending in
      let due = rehearsal_answer k.dids k.ending in
      record {
        acts = acts;
        due = due;
        is = goes_so (phases stock files (Rehearse n)) (IsDone files (Rehearse n)) acts due none (record { dids = k.dids; ending = k.ending; runs = k.runs; acts_are = refl; due_is = refl });
        does = does_of (IsReadFirst (phases stock files (Rehearse n))) acts due answer old new (rehearsal_of_no_file k.dids k.ending) k.does;
      }

-- what holds of all files holds of those that are told
pub of_told : (told : Option (List ℕ → Option (List ℕ))) (P : (List ℕ → Option (List ℕ)) → Type 0) → ((all : List ℕ → Option (List ℕ)) → P all) → IfSome told P
of_told None P f = tt
of_told (Some all) P f = f all

pub rehearse_counts : (site : SiteData) (n : ℕ) (answer : Result (Unit {0}) Halt) (old new : Outside) (files : FilesSeen) → Rehearses site n answer old new → FileCounts answer files files
rehearse_counts site n answer old new files k =
    counts_of (rehearsal_acts site k.dids k.ending) (rehearsal_answer k.dids k.ending) answer old new files files (rehearsal_of_no_file k.dids k.ending) k.does (refl, refl)

pub rehearse_faults : (site : SiteData) (n : ℕ) (answer : Result (Unit {0}) Halt) (old new : Outside) → Rehearses site n answer old new → SinkCounts answer old.out new.out
rehearse_faults site n answer old new k = sink_of (rehearsal_acts site k.dids k.ending) (rehearsal_answer k.dids k.ending) answer old new k.does

pub rehearse_logs : (site : SiteData) (n : ℕ) (answer : Result (Unit {0}) Halt) (old new : Outside) → Rehearses site n answer old new → VaultCounts answer old.vault new.vault
rehearse_logs site n answer old new k = vault_of (rehearsal_acts site k.dids k.ending) (rehearsal_answer k.dids k.ending) answer old new k.does

-- ---- there is an outcome, whatever the files hold

pub some_outcome : (stock : List Meaning) (files : List ℕ → Option (List ℕ)) (command : Command) → Some_due (IsDueOf (phases stock files command) (IsDone files command))
some_outcome stock files (Check definitions site) = some_due (phases stock files (Check definitions site)) (IsDone files (Check definitions site)) (some_check files definitions site)
some_outcome stock files (Replay definitions site script) = some_due (phases stock files (Replay definitions site script)) (IsDone files (Replay definitions site script)) (some_done stock definitions site script files)
some_outcome stock files (Rehearse n) = some_due (phases stock files (Rehearse n)) (IsDone files (Rehearse n)) (some_rehearsed stock n files)
some_outcome stock files (Dump logs) = some_due (phases stock files (Dump logs)) (IsDone files (Dump logs)) (some_dumped files [] logs)
some_outcome stock files (Play definitions site log) =
    some_due (phases stock files (Play definitions site log)) (IsDone files (Play definitions site log)) (some_play (site_asked files definitions site) (bytes_of (files log)))
some_outcome stock files (Extract definitions log wanted) =
    some_due (phases stock files (Extract definitions log wanted)) (IsDone files (Extract definitions log wanted)) (some_table (definitions_asked files definitions) wanted (bytes_of (files log)))
some_outcome stock files (Hub definitions site script below tie) =
    let above = site_asked files definitions site in
    let lower = site_asked files definitions below in
    some_due (phases stock files (Hub definitions site script below tie)) (IsDone files (Hub definitions site script below tie))
    (some_hub_of above lower script (events_asked files above script) (ends_of above lower tie) (ends_fit above lower tie))

-- ---- the status of what was done, and what is put with its last line

module _ (stock : List Meaning) (files : List ℕ → Option (List ℕ)) (command : Command) where
  abbrev For : List Act → Result (Unit {0}) Halt → Status → Outside → Outside → Type 0
  For acts due status old new = DoesFor stock files (Some command) (outcome_of acts due) status old new

  -- a read that failed after some of these acts
  abbrev Reading : Outside → Outside → List Act → Type 0
  Reading old new t = (n : ℕ) × (name : List ℕ) × IsReadIn stock files command (take n t) name × EndsWith (take n t) (read_fault_line name) old new

  acts_of : (acts : List Act) (due : Result (Unit {0}) Halt) → acts ≡ (outcome_of acts due).acts
  acts_of acts (Ok done) = refl
  acts_of acts (Err why) = refl

  wanted : (acts : List Act) (due : Result (Unit {0}) Halt) (n : ℕ) (status : Status) (old mid new : Outside) → AreDone (take n acts) old mid → status ≡ is.Memory → Printed mid.out new.out memory_line → new.vault ≡ mid.vault → For acts due status old new
  wanted acts due n status old mid new m e h v =
      subst (λ (st : Status). For acts due st old new) (sym e) (n, subst (λ (t : List Act). EndsWith (take n t) memory_line old new) (acts_of acts due) (ends_with (take n acts) memory_line old mid new m h v))

  -- a command that halts with a last line after its acts
  halted : (h : Halt) (own : (acts : List Act) (old new : Outside) → EndsWith acts (halt_line h) old new → For acts (Err h) (halt_status h) old new) (acts : List Act) (due : Result (Unit {0}) Halt) (status : Status) (old mid new : Outside)
      → (Err h ≡ due) × AreDone acts old mid → EndsHalted h status mid.out new.out → new.vault ≡ mid.vault → For acts due status old new
  halted h own acts due status old mid new p (inl k) v =
      subst (λ (d : Result (Unit {0}) Halt). For acts d status old new) p.0
      (subst (λ (st : Status). For acts (Err h) st old new) (sym k.0) (own acts old new (ends_with acts (halt_line h) old mid new p.1 k.1 v)))
  halted h own acts due status old mid new p (inr k) v =
      wanted acts due (length acts) status old mid new (subst (λ (t : List Act). AreDone t old mid) (sym (take-length acts)) p.1) k.1 k.2 v

  refused_own : (name : List ℕ) (kind : FileKind) (line : ℕ) (cause : Cause) (acts : List Act) (old new : Outside) → EndsWith acts (halt_line (halt.Refused name kind line cause)) old new → For acts (Err (halt.Refused name kind line cause)) (refused_as kind) old new
  refused_own name Configuration line cause acts old new k = (refl, k)
  refused_own name Script line cause acts old new k = (refl, k)

  pub answered : (acts : List Act) (due answer : Result (Unit {0}) Halt) (status : Status) (old mid new : Outside) → DoesOf (IsReadIn stock files command) acts due answer old mid → Ends answer status mid.out new.out → new.vault ≡ mid.vault → For acts due status old new
  answered acts due (Ok done) status old mid new p h v =
      let same : new ≡ mid = λ i. record { out = h.1 i; vault = v i } in
      subst (λ (d : Result (Unit {0}) Halt). For acts d status old new) p.0
      (subst (λ (st : Status). For acts (Ok done) st old new) (sym h.0) (refl, same ∙ p.1))
  answered acts due (Err halt.WriteFault) status old mid new p (inl h) v =
      subst (λ (st : Status). For acts due st old new) (sym h.0) (subst (λ (t : List Act). PutFails t old new) (acts_of acts due) (fails_still acts old mid new p h.1 v))
  answered acts due (Err halt.WriteFault) status old mid new p (inr h) v = absurd (cc (h.0))
  answered acts due (Err halt.LogFault) status old mid new p (inl h) v =
      subst (λ (st : Status). For acts due st old new) (sym h.0) (mid, subst (λ (t : List Act). LogFails t old mid) (acts_of acts due) p, ends_with [] log_fault_line mid mid new refl h.1 v)
  answered acts due (Err halt.LogFault) status old mid new p (inr h) v = absurd (cc (h.0))
  answered acts due (Err halt.Memory) status old mid new p (inl h) v = wanted acts due p.0 status old mid new p.1 h.0 h.1 v
  answered acts due (Err halt.Memory) status old mid new p (inr h) v = wanted acts due p.0 status old mid new p.1 h.1 h.2 v
  answered acts due (Err (halt.ReadFault name)) status old mid new p (inl h) v =
      subst (λ (st : Status). For acts due st old new) (sym h.0)
      (subst (Reading old new) (acts_of acts due) (p.0, name, p.1, ends_with (take p.0 acts) (read_fault_line name) old mid new p.2 h.1 v))
  answered acts due (Err (halt.ReadFault name)) status old mid new p (inr h) v = wanted acts due p.0 status old mid new p.2 h.1 h.2 v
  answered acts due (Err (halt.Absent name)) status old mid new p h v = halted (halt.Absent name) (λ a o n k. (refl, k)) acts due status old mid new p h v
  answered acts due (Err (halt.Refused name kind line cause)) status old mid new p h v = halted (halt.Refused name kind line cause) (refused_own name kind line cause) acts due status old mid new p h v
  answered acts due (Err (halt.ShelfEmpty kind needed stocked)) status old mid new p h v = halted (halt.ShelfEmpty kind needed stocked) (λ a o n k. (refl, k)) acts due status old mid new p h v
  answered acts due (Err (halt.HistoryFull entries bytes)) status old mid new p h v = halted (halt.HistoryFull entries bytes) (λ a o n k. (refl, k)) acts due status old mid new p h v
  answered acts due (Err (halt.LogRefused place)) status old mid new p h v = halted (halt.LogRefused place) (λ a o n k. (refl, k)) acts due status old mid new p h v
  answered acts due (Err (halt.UnknownName name)) status old mid new p h v = halted (halt.UnknownName name) (λ a o n k. (refl, k)) acts due status old mid new p h v
  answered acts due (Err (halt.HubRefused cause)) status old mid new p h v = halted (halt.HubRefused cause) (λ a o n k. (refl, k)) acts due status old mid new p h v
  answered acts due (Err halt.Misused) status old mid new p h v = halted halt.Misused (λ a o n k. (refl, k)) acts due status old mid new p h v

-- ---- what is kept besides

-- by the status of each reason to halt
halt_keeps : (above below : SiteData) (events : List (ℕ × Event)) (o : Option HubEnds) (h : Halt) → HubKeptOf above below events o (Err h) → HubKeepsBy above below events o (halt_status h)
halt_keeps above below events None h k = tt
halt_keeps above below events (Some ends) (halt.HistoryFull entries bytes) k = k
halt_keeps above below events (Some ends) halt.Memory k = tt
halt_keeps above below events (Some ends) (halt.ReadFault name) k = tt
halt_keeps above below events (Some ends) (halt.Absent name) k = tt
halt_keeps above below events (Some ends) halt.WriteFault k = tt
halt_keeps above below events (Some ends) halt.LogFault k = tt
halt_keeps above below events (Some ends) (halt.Refused name Configuration line cause) k = tt
halt_keeps above below events (Some ends) (halt.Refused name Script line cause) k = tt
halt_keeps above below events (Some ends) (halt.ShelfEmpty kind needed stocked) k = tt
halt_keeps above below events (Some ends) (halt.LogRefused place) k = tt
halt_keeps above below events (Some ends) (halt.UnknownName name) k = tt
halt_keeps above below events (Some ends) (halt.HubRefused cause) k = tt
halt_keeps above below events (Some ends) halt.Misused k = tt

memory_keeps : (above below : SiteData) (events : List (ℕ × Event)) (o : Option HubEnds) → HubKeepsBy above below events o is.Memory
memory_keeps above below events None = tt
memory_keeps above below events (Some ends) = tt

done_keeps : (above below : SiteData) (events : List (ℕ × Event)) (o : Option HubEnds) → HubKeptOf above below events o (Ok tt) → HubKeepsBy above below events o is.Ok
done_keeps above below events None k = tt
done_keeps above below events (Some ends) k = k

hub_keeps : (above below : SiteData) (events : List (ℕ × Event)) (o : Option HubEnds) (answer : Result (Unit {0}) Halt) (status : Status) (out out' : SinkSeen) → HubKeptOf above below events o answer → Ends answer status out out' → HubKeepsBy above below events o status
hub_keeps above below events o (Ok done) status out out' k h = rw h.0 (done_keeps above below events o k)
hub_keeps above below events o (Err why) status out out' k (inl h) = rw h.0 (halt_keeps above below events o why k)
hub_keeps above below events o (Err why) status out out' k (inr h) = rw h.1 (memory_keeps above below events o)

module _ (files : List ℕ → Option (List ℕ)) (definitions site log : List ℕ) where
  play_halts : (h : Halt) → Keeps files (Some (Play definitions site log)) (halt_status h)
  play_halts halt.Memory = tt
  play_halts (halt.ReadFault name) = tt
  play_halts (halt.Absent name) = tt
  play_halts halt.WriteFault = tt
  play_halts halt.LogFault = tt
  play_halts (halt.Refused name Configuration line cause) = tt
  play_halts (halt.Refused name Script line cause) = tt
  play_halts (halt.ShelfEmpty kind needed stocked) = tt
  play_halts (halt.HistoryFull entries bytes) = tt
  play_halts (halt.LogRefused place) = tt
  play_halts (halt.UnknownName name) = tt
  play_halts (halt.HubRefused cause) = tt
  play_halts halt.Misused = tt

  play_keeps : (answer : Result (Unit {0}) Halt) (status : Status) (out out' : SinkSeen) → CommandKeeps files (Play definitions site log) answer → Ends answer status out out' → Keeps files (Some (Play definitions site log)) status
  play_keeps (Ok done) status out out' k h = rw h.0 k
  play_keeps (Err why) status out out' k (inl h) = rw h.0 (play_halts why)
  play_keeps (Err why) status out out' k (inr h) = rw h.1 tt

command_keeps : (files : List ℕ → Option (List ℕ)) (command : Command) (answer : Result (Unit {0}) Halt) (status : Status) (out out' : SinkSeen) → CommandKeeps files command answer → Ends answer status out out' → Keeps files (Some command) status
command_keeps files (Check definitions site) answer status out out' k h = tt
command_keeps files (Replay definitions site script) answer status out out' k h = tt
command_keeps files (Rehearse n) answer status out out' k h = tt
command_keeps files (Dump logs) answer status out out' k h = tt
command_keeps files (Extract definitions log wanted) answer status out out' k h = tt
command_keeps files (Play definitions site log) answer status out out' k h = play_keeps files definitions site log answer status out out' k h
command_keeps files (Hub definitions site script below tie) answer status out out' k h =
    let above = site_asked files definitions site in
    let lower = site_asked files definitions below in
    hub_keeps above lower (events_asked files above script) (ends_of above lower tie) answer status out out' k h

-- what a command performed, with its last line, is its answer
pub answers : (stock : List Meaning) (told : Option (List ℕ → Option (List ℕ))) (command : Command) (asked : Option Command) (answer : Result (Unit {0}) Halt) (status : Status) (old mid new : Outside) → asked ≡ Some command
    → IfSome told (λ all. Performs stock all command answer old mid) → IfSome told (λ all. CommandKeeps all command answer) → Ends answer status mid.out new.out → new.vault ≡ mid.vault
    → IfSome told (λ all. Answers stock all asked status old new)
answers stock None command asked answer status old mid new e p k h v = tt
answers stock (Some all) command asked answer status old mid new e p k h v =
    subst (λ (c : Option Command). Answers stock all c status old new) (sym e) (record {
      outcome = outcome_of p.acts p.due;
      is = record { acts = p.acts; due = p.due; is = p.is; outcome = refl };
      does = answered stock all command p.acts p.due answer status old mid new p.does h v;
      keeps = command_keeps all command answer status mid.out new.out k h;
    })

pub misused_answers : (stock : List Meaning) (told : Option (List ℕ → Option (List ℕ))) (asked : Option Command) (status : Status) (old new : Outside) → asked ≡ None → status ≡ is.Usage → Printed old.out new.out usage_line → new.vault ≡ old.vault
    → IfSome told (λ all. Answers stock all asked status old new)
misused_answers stock None asked status old new e u h v = tt
misused_answers stock (Some all) asked status old new e u h v =
    subst (λ (c : Option Command). Answers stock all c status old new) (sym e)
    (subst (λ (st : Status). Answers stock all None st old new) (sym u) (record { outcome = misused; is = refl; does = (refl, ends_with [] usage_line old old new refl h v); keeps = tt }))

-- ---- where no count rose, the status is the outcome's

status_of : (stock : List Meaning) (files : List ℕ → Option (List ℕ)) (asked : Option Command) (o : Outcome) (status : Status) (old new : Outside) (no_read : status ≢ is.ReadFault) (no_write : status ≢ is.WriteFault) (no_log : status ≢ is.LogFault)
    → DoesFor stock files asked o status old new → (status ≡ o.status) ⊎ (status ≡ is.Memory)
status_of stock files asked o is.Memory old new a b c h = inr refl
status_of stock files asked o is.ReadFault old new a b c h = absurd (a refl)
status_of stock files asked o is.WriteFault old new a b c h = absurd (b refl)
status_of stock files asked o is.LogFault old new a b c h = absurd (c refl)
status_of stock files asked o is.Ok old new a b c h = inl (sym h.0)
status_of stock files asked o is.Usage old new a b c h = inl (sym h.0)
status_of stock files asked o is.Absent old new a b c h = inl (sym h.0)
status_of stock files asked o is.ConfigRefused old new a b c h = inl (sym h.0)
status_of stock files asked o is.ShelfEmpty old new a b c h = inl (sym h.0)
status_of stock files asked o is.ScriptRefused old new a b c h = inl (sym h.0)
status_of stock files asked o is.HistoryFull old new a b c h = inl (sym h.0)
status_of stock files asked o is.LogRefused old new a b c h = inl (sym h.0)
status_of stock files asked o is.NoWorker old new a b c h = inl (sym h.0)
status_of stock files asked o is.DoorFault old new a b c h = inl (sym h.0)
status_of stock files asked o is.UnknownName old new a b c h = inl (sym h.0)
status_of stock files asked o is.HubRefused old new a b c h = inl (sym h.0)

pub steady_rose : (before now : ℕ) → Steady before now → Rose before now → ⊥
steady_rose before now s r = omega (arith, s, r.1)

pub completes : (stock : List Meaning) (told : Option (List ℕ → Option (List ℕ))) (asked : Option Command) (status : Status) (old new : Outside) (faults faults_now : ℕ)
    → (status ≡ is.ReadFault → Rose faults faults_now) → (status ≡ is.WriteFault → Rose old.out.faults new.out.faults) → (status ≡ is.LogFault → Rose old.vault.faults new.vault.faults)
    → Steady faults faults_now → Steady old.out.faults new.out.faults → Steady old.vault.faults new.vault.faults
    → IfSome told (λ all. Answers stock all asked status old new) → IfSome told (λ all. Completes stock all asked status)
completes stock None asked status old new f f' read write log sf so sv h = tt
completes stock (Some all) asked status old new f f' read write log sf so sv h = record {
  outcome = h.outcome;
  is = h.is;
  status_is = status_of stock all asked h.outcome status old new (λ e. steady_rose f f' sf (read e)) (λ e. steady_rose old.out.faults new.out.faults so (write e)) (λ e. steady_rose old.vault.faults new.vault.faults sv (log e)) h.does;
}

-- ---- the shelf

-- the phases had no reason, and the world was made
pub begun_shelf : (site : SiteData) (answer : Result (Unit {0}) Halt) (old new : List Meaning) → Taken old (line_uses site) new → ShelfBy site None answer old new
begun_shelf site (Ok done) old new t = t
begun_shelf site (Err halt.Memory) old new t = inr t
begun_shelf site (Err (halt.ReadFault name)) old new t = inr t
begun_shelf site (Err (halt.Absent name)) old new t = t
begun_shelf site (Err halt.WriteFault) old new t = t
begun_shelf site (Err halt.LogFault) old new t = t
begun_shelf site (Err (halt.Refused name kind line cause)) old new t = t
begun_shelf site (Err (halt.ShelfEmpty kind needed stocked)) old new t = t
begun_shelf site (Err (halt.HistoryFull entries bytes)) old new t = t
begun_shelf site (Err (halt.LogRefused place)) old new t = t
begun_shelf site (Err (halt.UnknownName name)) old new t = t
begun_shelf site (Err (halt.HubRefused cause)) old new t = t
begun_shelf site (Err halt.Misused) old new t = t

pub never_some : {A : Type 0} (ps : List Phase) (h : Halt) → first_halt ps ≡ None → first_halt ps ≡ Some h → A
never_some ps h e k = absurd (cc (sym e ∙ k))

-- no world was made
pub unbegun_by : (site : SiteData) (ps : List Phase) (h : Halt) (first : Option Halt) (old new : List Meaning) → first_halt ps ≡ first → HaltsIn ps h → new ≡ old → ShelfBy site first (Err h) old new
unbegun_by site ps h (Some x) old new e k same = same
unbegun_by site ps halt.Memory None old new e k same = inl same
unbegun_by site ps (halt.ReadFault name) None old new e k same = inl same
unbegun_by site ps (halt.Absent name) None old new e k same = never_some ps (halt.Absent name) e k
unbegun_by site ps halt.WriteFault None old new e k same = absurd k
unbegun_by site ps halt.LogFault None old new e k same = absurd k
unbegun_by site ps (halt.Refused name kind line cause) None old new e k same = never_some ps (halt.Refused name kind line cause) e k
unbegun_by site ps (halt.ShelfEmpty kind needed stocked) None old new e k same = never_some ps (halt.ShelfEmpty kind needed stocked) e k
unbegun_by site ps (halt.HistoryFull entries bytes) None old new e k same = never_some ps (halt.HistoryFull entries bytes) e k
unbegun_by site ps (halt.LogRefused place) None old new e k same = never_some ps (halt.LogRefused place) e k
unbegun_by site ps (halt.UnknownName name) None old new e k same = never_some ps (halt.UnknownName name) e k
unbegun_by site ps (halt.HubRefused cause) None old new e k same = never_some ps (halt.HubRefused cause) e k
unbegun_by site ps halt.Misused None old new e k same = never_some ps halt.Misused e k

module _ (stock new : List Meaning) (definitions site : List ℕ) where
  pub unloaded_shelf : (told : Option (List ℕ → Option (List ℕ))) (h : Halt) → IfSome told (λ all. TakesSite all definitions site (Err h)) → new ≡ stock → IfSome told (λ all. LeavesShelf all definitions site (Err h) stock new)
  unloaded_shelf None h k same = tt
  unloaded_shelf (Some all) h k same =
      unbegun_by (site_asked all definitions site) (first_phases stock all definitions site) h (first_halt (first_phases stock all definitions site)) stock new refl
      (front (site_phases all definitions site) (shelf_phase stock (site_asked all definitions site) ∷ []) h k) same

  pub unmade_shelf : (told : Option (List ℕ → Option (List ℕ))) (x : SiteData × List ℕ) (h : Halt) → IfSome told (λ all. TakesSite all definitions site (Ok x)) → HaltsIn (shelf_phase stock x.0 ∷ []) h → new ≡ stock
      → IfSome told (λ all. LeavesShelf all definitions site (Err h) stock new)
  unmade_shelf None x h s k same = tt
  unmade_shelf (Some all) x h s k same =
      unbegun_by (site_asked all definitions site) (first_phases stock all definitions site) h (first_halt (first_phases stock all definitions site)) stock new refl
      (past (site_phases all definitions site) (shelf_phase stock (site_asked all definitions site) ∷ []) h s.0 (subst (λ (y : SiteData × List ℕ). HaltsIn (shelf_phase stock y.0 ∷ []) h) s.1 k)) same

  pub made_shelf : (told : Option (List ℕ → Option (List ℕ))) (x : SiteData × List ℕ) (answer : Result (Unit {0}) Halt) → IfSome told (λ all. TakesSite all definitions site (Ok x)) → first_halt (shelf_phase stock x.0 ∷ []) ≡ None
      → Taken stock (line_uses x.0) new → IfSome told (λ all. LeavesShelf all definitions site answer stock new)
  made_shelf None x answer s w t = tt
  made_shelf (Some all) x answer s w t =
      let none : first_halt (first_phases stock all definitions site) ≡ None =
      first_past (site_phases all definitions site) (shelf_phase stock (site_asked all definitions site) ∷ []) s.0 ∙ subst (λ (y : SiteData × List ℕ). first_halt (shelf_phase stock y.0 ∷ []) ≡ None) s.1 w in
      subst (λ (o : Option Halt). ShelfBy (site_asked all definitions site) o answer stock new) (sym none) (begun_shelf (site_asked all definitions site) answer stock new (subst (λ (y : SiteData × List ℕ). Taken stock (line_uses y.0) new) s.1 t))

-- the same by the status, with which want of memory may have come
pub shelf_status : (site : SiteData) (first : Option Halt) (answer : Result (Unit {0}) Halt) (status : Status) (old new : List Meaning) (out out' : SinkSeen) → ShelfBy site first answer old new → Ends answer status out out' → ShelfAt site first status old new
shelf_status site (Some x) answer status old new out out' k h = k
shelf_status site None (Ok done) status old new out out' k h = rw h.0 k
shelf_status site None (Err halt.Memory) status old new out out' k (inl h) = rw h.0 k
shelf_status site None (Err halt.Memory) status old new out out' k (inr h) = rw h.1 k
shelf_status site None (Err (halt.ReadFault name)) status old new out out' k (inl h) = rw h.0 k
shelf_status site None (Err (halt.ReadFault name)) status old new out out' k (inr h) = rw h.1 k
shelf_status site None (Err (halt.Absent name)) status old new out out' k (inl h) = rw h.0 k
shelf_status site None (Err (halt.Absent name)) status old new out out' k (inr h) = rw h.1 (inr k)
shelf_status site None (Err halt.WriteFault) status old new out out' k (inl h) = rw h.0 k
shelf_status site None (Err halt.LogFault) status old new out out' k (inl h) = rw h.0 k
shelf_status site None (Err halt.WriteFault) status old new out out' k (inr h) = rw h.1 (inr k)
shelf_status site None (Err halt.LogFault) status old new out out' k (inr h) = rw h.1 (inr k)
shelf_status site None (Err (halt.Refused name Configuration line cause)) status old new out out' k (inl h) = rw h.0 k
shelf_status site None (Err (halt.Refused name Configuration line cause)) status old new out out' k (inr h) = rw h.1 (inr k)
shelf_status site None (Err (halt.Refused name Script line cause)) status old new out out' k (inl h) = rw h.0 k
shelf_status site None (Err (halt.Refused name Script line cause)) status old new out out' k (inr h) = rw h.1 (inr k)
shelf_status site None (Err (halt.ShelfEmpty kind needed stocked)) status old new out out' k (inl h) = rw h.0 k
shelf_status site None (Err (halt.ShelfEmpty kind needed stocked)) status old new out out' k (inr h) = rw h.1 (inr k)
shelf_status site None (Err (halt.HistoryFull entries bytes)) status old new out out' k (inl h) = rw h.0 k
shelf_status site None (Err (halt.HistoryFull entries bytes)) status old new out out' k (inr h) = rw h.1 (inr k)
shelf_status site None (Err (halt.LogRefused place)) status old new out out' k (inl h) = rw h.0 k
shelf_status site None (Err (halt.UnknownName name)) status old new out out' k (inl h) = rw h.0 k
shelf_status site None (Err (halt.HubRefused cause)) status old new out out' k (inl h) = rw h.0 k
shelf_status site None (Err halt.Misused) status old new out out' k (inl h) = rw h.0 k
shelf_status site None (Err (halt.LogRefused place)) status old new out out' k (inr h) = rw h.1 (inr k)
shelf_status site None (Err (halt.UnknownName name)) status old new out out' k (inr h) = rw h.1 (inr k)
shelf_status site None (Err (halt.HubRefused cause)) status old new out out' k (inr h) = rw h.1 (inr k)
shelf_status site None (Err halt.Misused) status old new out out' k (inr h) = rw h.1 (inr k)

-- of a hub, which may have taken the boxes of the world above alone
half_status : (above : SiteData) (first : Option Halt) (answer : Result (Unit {0}) Halt) (status : Status) (old new : List Meaning) (out out' : SinkSeen) → HalfTaken above first answer old new → Ends answer status out out' → HalfTakenAt above first status old new
half_status above None (Err halt.Memory) status old new out out' k (inl h) = rw h.0 k
half_status above None (Err halt.Memory) status old new out out' k (inr h) = rw h.1 k
half_status above None (Ok done) status old new out out' k h = absurd k
half_status above None (Err (halt.ReadFault name)) status old new out out' k h = absurd k
half_status above None (Err (halt.Absent name)) status old new out out' k h = absurd k
half_status above None (Err halt.WriteFault) status old new out out' k h = absurd k
half_status above None (Err halt.LogFault) status old new out out' k h = absurd k
half_status above None (Err (halt.Refused name kind line cause)) status old new out out' k h = absurd k
half_status above None (Err (halt.ShelfEmpty kind needed stocked)) status old new out out' k h = absurd k
half_status above None (Err (halt.HistoryFull entries bytes)) status old new out out' k h = absurd k
half_status above None (Err (halt.LogRefused place)) status old new out out' k h = absurd k
half_status above None (Err (halt.UnknownName name)) status old new out out' k h = absurd k
half_status above None (Err (halt.HubRefused cause)) status old new out out' k h = absurd k
half_status above None (Err halt.Misused) status old new out out' k h = absurd k
half_status above (Some x) answer status old new out out' k h = absurd k

hub_status : (above below : SiteData) (first : Option Halt) (answer : Result (Unit {0}) Halt) (status : Status) (old new : List Meaning) (out out' : SinkSeen) → ShelfBy (joint above below) first answer old new ⊎ HalfTaken above first answer old new → Ends answer status out out'
    → ShelfAt (joint above below) first status old new ⊎ HalfTakenAt above first status old new
hub_status above below first answer status old new out out' (inl k) h = inl (shelf_status (joint above below) first answer status old new out out' k h)
hub_status above below first answer status old new out out' (inr k) h = inr (half_status above first answer status old new out out' k h)

pub command_shelf : (told : Option (List ℕ → Option (List ℕ))) (command : Command) (asked : Option Command) (answer : Result (Unit {0}) Halt) (status : Status) (old new : List Meaning) (out out' : SinkSeen) → asked ≡ Some command
    → IfSome told (λ all. CommandLeaves all command answer old new) → Ends answer status out out' → IfSome told (λ all. ShelfAfter all asked status old new)
command_shelf None command asked answer status old new out out' e k h = tt
command_shelf (Some all) command asked answer status old new out out' e k h = subst (λ (c : Option Command). ShelfAfter all c status old new) (sym e) (by_command command k)
  where
    by_command : (c : Command) → CommandLeaves all c answer old new → ShelfAfter all (Some c) status old new
    by_command (Check definitions site) k = k
    by_command (Dump logs) k = k
    by_command (Extract definitions log wanted) k = k
    by_command (Hub definitions site script below tie) k =
        hub_status (site_asked all definitions site) (site_asked all definitions below) (first_halt (tied_phases old all definitions site below tie)) answer status old new out out' k h
    by_command (Play definitions site log) k = shelf_status (played 2 (site_asked all definitions site)) (first_halt (play_phases old all definitions site log)) answer status old new out out' k h
    by_command (Rehearse n) k = shelf_status demo_site (first_halt (first_phases old demo_files definitions_name site_name)) answer status old new out out' k h
    by_command (Replay definitions site script) k = shelf_status (site_asked all definitions site) (first_halt (first_phases old all definitions site)) answer status old new out out' k h
