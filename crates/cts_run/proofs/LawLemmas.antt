-- A command has exactly one outcome, and which statuses come where.
use Rattle.std.proofs.Common.{◌≡◌, ◌≢◌, ℕ, ◌<◌, ◌≤◌, Bool, true, false, nat_eq, List, [], ◌∷◌, ◌++◌, length, Option, Some, None, option_map, MatchOption, Result, Ok, Err, refl, sym, ◌∙◌, ap, ap₂, subst, arith, ◌⊎◌, inl, inr}
use Rattle.std.specs.Prelude.{◌↔◌, nat_lt}
use Rattle.std.specs.Option.{option_or}
use Rattle.std.proofs.lemmas.Bool.Decides.{nat_tests}
use Rattle.cts_core_laws.proofs.OneRun.{has_one_run}
use Rattle.cts_core_laws.proofs.SiteSound.{site_sound}
use Rattle.cts_core.specs.Environments.{basis_of, site_environment}
use Rattle.cts_core.specs.Runs.{Did, Ending}
use Rattle.cts_core.specs.States.{opening}
use Rattle.cts_def.specs.Sites.{SiteData}
use Rattle.cts_def.specs.declared.proto_spec.Kind.{Kind}
use Rattle.cts_entry.specs.declared.event.Event.{Event}
use Rattle.cts_framing.specs.Patterns.{begins}
use Rattle.cts_log.proofs.OneText.{entries_have_one_line}
use Rattle.cts_log.proofs.ReadOnce.{logs_are_read_once, no_head_no_read}
use Rattle.cts_log.specs.Logged.{Logged}
use Rattle.cts_log.specs.Reading.{IsLogRead}
use Rattle.cts_play.specs.Played.{played}
use Rattle.cts_proto.specs.Meaning.{Meaning}
use Rattle.cts_rehearsal.specs.Generated.{generated}
use Rattle.cts_run.specs.Acts.{Act, puts}
use Rattle.cts_run.specs.Command.{IsDone, IsDueOf, IsOutcome, Outcome, misused, outcome_of, phases}
use Rattle.cts_run.specs.Demo.{definitions_name, demo_files, demo_site, site_name}
use Rattle.cts_run.specs.Dump.{AreDumped, AreLines, GoesOn, IsDump, IsFileDump, dump_answer, head_after, log_phase, other_head}
use Rattle.cts_run.specs.Endings.{halt_status}
use Rattle.cts_run.specs.Laws.{HasOneOutcome, HasOutcome, HasRefused, IsBadLog, IsGoodLog, IsRefusedLog, IsShortFor, IsWholeLog, ShortExactly}
use Rattle.cts_run.specs.Load.{bytes_of, definitions_asked, definitions_phase, definitions_read, digest_asked, events_asked, script_phase, site_asked, site_phase, site_phases, site_read}
use Rattle.cts_run.specs.Load.Files.{log_limit, within}
use Rattle.cts_run.specs.Phases.{Phase, file_halt, first_halt}
use Rattle.cts_run.specs.Play.{log_phases}
use Rattle.cts_run.specs.Rehearsal.{IsRehearsal, rehearsal_acts, rehearsal_answer}
use Rattle.cts_run.specs.Replay.{IsReplay, replay_acts, replay_answer}
use Rattle.cts_run.specs.Start.{shelf_phase, short_halt, short_kind}
use Rattle.cts_run.specs.Tie.{TieData}
use Rattle.cts_run.specs.Transcript.{events_of}
use Rattle.cts_run.specs.declared.halt.Halt.{Halt}
use Rattle.cts_run.specs.declared.halt.Halt.TheVariants as halt
use Rattle.cts_run.specs.declared.halt.file_kind.FileKind.TheVariants.{Configuration}
use Rattle.cts_run.specs.declared.halt.status.Status.{Status}
use Rattle.cts_run.specs.declared.halt.status.Status.TheVariants as is
use Rattle.cts_run.specs.declared.words.Command.{Command}
use Rattle.cts_run.specs.declared.words.Command.TheVariants.{Check, Replay, Rehearse, Dump, Play, Extract, Hub}
use Rattle.cts_run.proofs.CommandLemmas.{some_outcome}
use Rattle.cts_run.proofs.EndsLemmas.{ends_fit}
use Rattle.cts_run.proofs.HubLemmas.{one_hub_of}
use Rattle.cts_run.proofs.HubLawLemmas.{hub_other, short_hub_so, short_hub_where}
use Rattle.cts_run.specs.Hub.{ends_of}
use Rattle.cts_run.proofs.DumpedLemmas.{IsFileDue, another_head, same_head}
use Rattle.cts_run.proofs.StatusLemmas.{Other, has_status, log_is_other, of_check, of_file, of_phases, of_rehearsal, of_replay, of_script, of_site, other_or, outcome_status, shelf_is_other, status_alone}
use Rattle.cts_run.proofs.TableLawLemmas.{extract_other, one_table}
use Rattle.cts_run.proofs.PlayLawLemmas.{play_after}
use Rattle.cts_run.proofs.PlayedLemmas.{one_play}
use Rattle.cts_run.proofs.PhaseLemmas.{first_front, first_past, none_alone}

-- ---- one outcome

one_text : (es : List Logged) (acts other : List Act) → AreLines es acts → AreLines es other → acts ≡ other
one_text [] acts other a b = a ∙ sym b
one_text (e ∷ es) acts other a b = a.4 ∙ (ap₂ ◌++◌ (ap puts (entries_have_one_line e a.0 b.0 a.2 b.2)) (one_text es a.1 b.1 a.3 b.3) ∙ sym b.4)

abbrev Same : List Act → List Act → Result (Unit {0}) Halt → Result (Unit {0}) Halt → Type 0
Same acts other due answer = (acts ≡ other) × (due ≡ answer)

one_dump : (file : List ℕ) (acts other : List Act) (due answer : Result (Unit {0}) Halt) → IsDump file acts due → IsDump file other answer → Same acts other due answer
one_dump file acts other due answer (inl a) (inl b) =
    let same = logs_are_read_once file a.kind b.kind a.flagged b.flagged a.entries b.entries a.place b.place a.read b.read in (
      one_text b.entries acts other (subst (λ (es : List Logged). AreLines es acts) same.2 a.lines) b.lines,
      a.due_is ∙ (ap (λ (n : ℕ). dump_answer n (length file)) same.3 ∙ sym b.due_is),
    )
one_dump file acts other due answer (inl a) (inr b) = absurd (no_head_no_read file a.kind a.flagged a.entries a.place b.none a.read)
one_dump file acts other due answer (inr a) (inl b) = absurd (no_head_no_read file b.kind b.flagged b.entries b.place a.none b.read)
one_dump file acts other due answer (inr a) (inr b) = (a.nothing ∙ sym b.nothing, a.refused ∙ sym b.refused)

one_file : (file : List ℕ) (other : Option Halt) (acts more : List Act) (due answer : Result (Unit {0}) Halt) → IsFileDue file other acts due → IsFileDue file other more answer → Same acts more due answer
one_file file None acts more due answer h k = one_dump file acts more due answer h k
one_file file (Some x) acts more due answer h k = (h.0 ∙ sym k.0, h.1 ∙ sym k.1)

one_going : (ended : Result (Unit {0}) Halt) (next : List Act → Result (Unit {0}) Halt → Type 0) (one : (a b : List Act) (d e : Result (Unit {0}) Halt) → next a d → next b e → Same a b d e)
    (own acts other : List Act) (due answer : Result (Unit {0}) Halt) → GoesOn ended next own acts due → GoesOn ended next own other answer → Same acts other due answer
one_going (Ok done) next one own acts other due answer h k =
    let same = one h.0 k.0 due answer h.1 k.1 in
    (h.2 ∙ (ap (λ (t : List Act). own ++ t) same.0 ∙ sym k.2), same.1)
one_going (Err x) next one own acts other due answer h k = (h.0 ∙ sym k.0, h.1 ∙ sym k.1)

-- files that are dumped one after the other
one_dumped : (files : List ℕ → Option (List ℕ)) (head : List ℕ) (logs : List (List ℕ)) (acts other : List Act) (due answer : Result (Unit {0}) Halt) → AreDumped files head logs acts due → AreDumped files head logs other answer → Same acts other due answer
one_dumped files head [] acts other due answer h k = (h.0 ∙ sym k.0, h.1 ∙ sym k.1)
one_dumped files head (log ∷ logs) acts other due answer h k =
    let after = head_after head (bytes_of (files log)) in
    let next = AreDumped files after logs in
    let same = one_file (bytes_of (files log)) (log_phase files head log).halts h.0 k.0 h.1 k.1 h.2 k.2 in
    one_going h.1 next (λ a b d e. one_dumped files after logs a b d e) h.0 acts other due answer h.3
    (subst (λ (own : List Act). GoesOn h.1 next own other answer) (sym same.0) (subst (λ (e : Result (Unit {0}) Halt). GoesOn e next k.0 other answer) (sym same.1) k.3))

-- a script's events have one run
one_replay : (digest : List ℕ) (site : SiteData) (script : List ℕ) (events : List (ℕ × Event)) (acts other : List Act) (due answer : Result (Unit {0}) Halt) → IsReplay digest site script events acts due → IsReplay digest site script events other answer → Same acts other due answer
one_replay digest site script events acts other due answer h k =
    let same = has_one_run (site_environment site) (site_sound (basis_of site)) opening (events_of events) h.dids k.dids h.ending k.ending h.runs k.runs in (
      h.acts_are ∙ (ap (λ (ds : List Did). replay_acts digest site events ds h.ending) same.0 ∙ (ap (λ (e : Ending). replay_acts digest site events k.dids e) same.1 ∙ sym k.acts_are)),
      h.due_is ∙ (ap (λ (ds : List Did). replay_answer script events ds h.ending) same.0 ∙ (ap (λ (e : Ending). replay_answer script events k.dids e) same.1 ∙ sym k.due_is)),
    )

-- and so have those of a rehearsal
one_rehearsal : (site : SiteData) (n : ℕ) (acts other : List Act) (due answer : Result (Unit {0}) Halt) → IsRehearsal site n acts due → IsRehearsal site n other answer → Same acts other due answer
one_rehearsal site n acts other due answer h k =
    let same = has_one_run (site_environment site) (site_sound (basis_of site)) opening (generated n) h.dids k.dids h.ending k.ending h.runs k.runs in (
      h.acts_are ∙ (ap (λ (ds : List Did). rehearsal_acts site ds h.ending) same.0 ∙ (ap (λ (e : Ending). rehearsal_acts site k.dids e) same.1 ∙ sym k.acts_are)),
      h.due_is ∙ (ap (λ (ds : List Did). rehearsal_answer ds h.ending) same.0 ∙ (ap (λ (e : Ending). rehearsal_answer k.dids e) same.1 ∙ sym k.due_is)),
    )

one_done : (files : List ℕ → Option (List ℕ)) (command : Command) (acts other : List Act) (due answer : Result (Unit {0}) Halt) → IsDone files command acts due → IsDone files command other answer → Same acts other due answer
one_done files (Check definitions site) acts other due answer h k = (h.0 ∙ sym k.0, h.1 ∙ sym k.1)
one_done files (Replay definitions site script) acts other due answer h k = one_replay (digest_asked files definitions) (site_asked files definitions site) script (events_asked files (site_asked files definitions site) script) acts other due answer h k
one_done files (Rehearse n) acts other due answer h k = one_rehearsal demo_site n acts other due answer h k
one_done files (Dump logs) acts other due answer h k = one_dumped files [] logs acts other due answer h k
one_done files (Play definitions site log) acts other due answer h k = one_play (site_asked files definitions site) (bytes_of (files log)) acts other due answer h k
one_done files (Extract definitions log w) acts other due answer h k = one_table (definitions_asked files definitions) w (bytes_of (files log)) acts other due answer h k
one_done files (Hub definitions site script below tie) acts other due answer h k =
    let above = site_asked files definitions site in
    let lower = site_asked files definitions below in
    one_hub_of above lower script (events_asked files above script) (ends_of above lower tie) (ends_fit above lower tie) acts other due answer h k

one_by : (h : Option Halt) (files : List ℕ → Option (List ℕ)) (command : Command) (acts other : List Act) (due answer : Result (Unit {0}) Halt)
    → MatchOption h (IsDone files command acts due) (λ x. (acts ≡ []) × (due ≡ Err x)) → MatchOption h (IsDone files command other answer) (λ x. (other ≡ []) × (answer ≡ Err x)) → Same acts other due answer
one_by (Some x) files command acts other due answer h k = (h.0 ∙ sym k.0, h.1 ∙ sym k.1)
one_by None files command acts other due answer h k = one_done files command acts other due answer h k

pub has_one_outcome : HasOneOutcome
has_one_outcome stock files None o p h k = h ∙ sym k
has_one_outcome stock files (Some command) o p h k =
    let same = one_by (first_halt (phases stock files command)) files command h.acts k.acts h.due k.due h.is k.is in
    h.outcome ∙ (ap₂ outcome_of same.0 same.1 ∙ sym k.outcome)

pub has_outcome : HasOutcome
has_outcome stock files None = (misused, refl)
has_outcome stock files (Some command) =
    let o = some_outcome stock files command in
    (outcome_of o.0 o.1, record { acts = o.0; due = o.1; is = o.2; outcome = refl })

-- ---- a shelf that is short

-- phases in which a site is read and its world is made, and those after them, which never end so
module _ (stock : List Meaning) (files : List ℕ → Option (List ℕ)) (definitions site : List ℕ) (x : SiteData) (after : List Phase) (done : List Act → Result (Unit {0}) Halt → Type 0)
    (never : (acts : List Act) (due : Result (Unit {0}) Halt) → IsDueOf after done acts due → (outcome_of [] due).status ≡ is.ShelfEmpty → ⊥) where
  abbrev before : List Phase
  before = site_phases files definitions site

  abbrev rest : List Phase
  rest = shelf_phase stock x ∷ after

  abbrev Due : List Phase → List Act → Result (Unit {0}) Halt → Type 0
  Due ps acts due = IsDueOf ps done acts due

  -- after the phases before the shelf
  past_before : (acts : List Act) (due : Result (Unit {0}) Halt) → first_halt before ≡ None → Due (before ++ rest) acts due → Due rest acts due
  past_before acts due e m = subst (λ (o : Option Halt). MatchOption o (done acts due) (λ h. (acts ≡ []) × (due ≡ Err h))) (first_past before rest e) m

  by_kind : (kind : Option Kind) (acts : List Act) (due : Result (Unit {0}) Halt) → short_kind stock x ≡ kind → first_halt before ≡ None → Due rest acts due → (outcome_of [] due).status ≡ is.ShelfEmpty → IsShortFor stock files definitions site x
  by_kind (Some kind) acts due k e m h = record { taken = e; kind = kind; short = k }
  by_kind None acts due k e m h =
      let none : (shelf_phase stock x).halts ≡ None = ap (option_map (short_halt stock x)) k in
      let m' = subst (λ (o : Option Halt). MatchOption o (done acts due) (λ h. (acts ≡ []) × (due ≡ Err h))) (first_past (shelf_phase stock x ∷ []) after (none_alone (shelf_phase stock x) none)) m in
      absurd (never acts due m' h)

  by_first : (first : Option Halt) (acts : List Act) (due : Result (Unit {0}) Halt) → first_halt before ≡ first → Other is.ShelfEmpty shelf_is_other first → Due (before ++ rest) acts due → (outcome_of [] due).status ≡ is.ShelfEmpty → IsShortFor stock files definitions site x
  by_first None acts due e o m h = by_kind (short_kind stock x) acts due refl e (past_before acts due e m) h
  by_first (Some f) acts due e o m h = absurd (o (front_status acts due f e m h))
    where
      front_status : (acts : List Act) (due : Result (Unit {0}) Halt) (f : Halt) → first_halt before ≡ Some f → Due (before ++ rest) acts due → (outcome_of [] due).status ≡ is.ShelfEmpty → halt_status f ≡ is.ShelfEmpty
      front_status acts due f e m h =
          let m' = subst (λ (o : Option Halt). MatchOption o (done acts due) (λ y. (acts ≡ []) × (due ≡ Err y))) (first_front before rest f e) m in
          sym (ap (λ (d : Result (Unit {0}) Halt). (outcome_of [] d).status) m'.1) ∙ h

  pub short_where : (acts : List Act) (due : Result (Unit {0}) Halt) → Due (before ++ rest) acts due → (outcome_of [] due).status ≡ is.ShelfEmpty → IsShortFor stock files definitions site x
  short_where acts due m h = by_first (first_halt before) acts due refl (of_site is.ShelfEmpty shelf_is_other files definitions site) m h

  short_told : (acts : List Act) (due : Result (Unit {0}) Halt) (o : Outcome) → o ≡ outcome_of acts due → Due (before ++ rest) acts due → IsShortFor stock files definitions site x → o.status ≡ is.ShelfEmpty
  short_told acts due o e m s =
      let short : first_halt rest ≡ Some (short_halt stock x s.kind) = ap (λ (t : Option Kind). option_or (option_map (short_halt stock x) t) (first_halt after)) s.short in
      let m' = subst (λ (t : Option Halt). MatchOption t (done acts due) (λ y. (acts ≡ []) × (due ≡ Err y))) (first_past before rest s.taken ∙ short) m in
      outcome_status acts due (short_halt stock x s.kind) o e m'.1

-- after the shelf a replay reads its script, and a rehearsal nothing
replay_never : (files : List ℕ → Option (List ℕ)) (definitions site script : List ℕ) (acts : List Act) (due : Result (Unit {0}) Halt)
    → IsDueOf (script_phase files (site_asked files definitions site) script ∷ []) (IsDone files (Replay definitions site script)) acts due → (outcome_of [] due).status ≡ is.ShelfEmpty → ⊥
replay_never files definitions site script acts due m h =
    let y = site_asked files definitions site in
    of_phases is.ShelfEmpty shelf_is_other (first_halt (script_phase files y script ∷ [])) (IsDone files (Replay definitions site script) acts due) acts due (of_script is.ShelfEmpty shelf_is_other files definitions site y script)
    (λ d s. of_replay is.ShelfEmpty shelf_is_other (digest_asked files definitions) y script (events_asked files y script) acts due d s) m h

rehearsal_never : (files : List ℕ → Option (List ℕ)) (n : ℕ) (acts : List Act) (due : Result (Unit {0}) Halt) → IsDueOf [] (IsDone files (Rehearse n)) acts due → (outcome_of [] due).status ≡ is.ShelfEmpty → ⊥
rehearsal_never files n acts due m h = of_rehearsal is.ShelfEmpty shelf_is_other demo_site n acts due m h

-- ---- how the dump of a file ends

-- a log is refused
abbrev pub Refuses : Result (Unit {0}) Halt → Type 0
Refuses due = (place : ℕ) × (due ≡ Err (halt.LogRefused place))

whole_place : (place n : ℕ) → nat_eq place n ≡ true → place ≡ n
whole_place place n e = grind (arith, nat_tests)

cut_place : (place n : ℕ) → nat_eq place n ≡ false → place ≡ n → ⊥
cut_place place n e f = grind (arith, nat_tests)

answer_whole : (place n : ℕ) → nat_eq place n ≡ true → dump_answer place n ≡ Ok tt
answer_whole place n e = rw e refl

answer_cut : (place n : ℕ) → nat_eq place n ≡ false → dump_answer place n ≡ Err (halt.LogRefused place)
answer_cut place n e = rw e refl

abbrev pub DumpEnds : List ℕ → Result (Unit {0}) Halt → Type 0
DumpEnds file due = (IsWholeLog file × (due ≡ Ok tt)) ⊎ ((IsWholeLog file → ⊥) × Refuses due)

pub dump_ends : (file : List ℕ) (acts : List Act) (due : Result (Unit {0}) Halt) → IsDump file acts due → DumpEnds file due
dump_ends file acts due (inl a) = by_place (nat_eq a.place (length file)) refl
  where
    by_place : (whole : Bool) → nat_eq a.place (length file) ≡ whole → DumpEnds file due
    by_place true e =
        inl ((a.kind, a.flagged, a.entries, subst (λ (p : ℕ). IsLogRead file a.kind a.flagged a.entries p) (whole_place a.place (length file) e) a.read), a.due_is ∙ answer_whole a.place (length file) e)
    by_place false e =
        inr (λ w. cut_place a.place (length file) e (logs_are_read_once file a.kind w.0 a.flagged w.1 a.entries w.2 a.place (length file) a.read w.3).3, (a.place, a.due_is ∙ answer_cut a.place (length file) e))
dump_ends file acts due (inr a) = inr (λ w. no_head_no_read file w.0 w.1 w.2 (length file) a.none w.3, (0, a.refused))

too_large : (head file : List ℕ) → nat_lt log_limit (length file) ≡ true → within log_limit (halt.LogRefused log_limit) (other_head head) file ≡ Some (halt.LogRefused log_limit)
too_large head file e = rw e refl

not_large : (head file : List ℕ) → nat_lt log_limit (length file) ≡ false → within log_limit (halt.LogRefused log_limit) (other_head head) file ≡ other_head head file
not_large head file e = rw e refl

is_large : (n : ℕ) → nat_lt log_limit n ≡ true → log_limit < n
is_large n e = grind (arith, nat_tests)

is_small : (n : ℕ) → nat_lt log_limit n ≡ false → n ≤ log_limit
is_small n e = grind (arith, nat_tests)

module _ (files : List ℕ → Option (List ℕ)) (head log : List ℕ) where
  -- it is not there, it is refused, or it is dumped to its end
  abbrev pub FileEnds : Result (Unit {0}) Halt → Type 0
  FileEnds due =
      ((files log ≡ None) × (due ≡ Err (halt.Absent log))) ⊎ ((IsRefusedLog files head log × Refuses due) ⊎ (IsGoodLog files head log × (due ≡ Ok tt)))

  ends_begun : (file : List ℕ) (due : Result (Unit {0}) Halt) → files log ≡ Some file → length file ≤ log_limit → begins head file ≡ true → DumpEnds file due → FileEnds due
  ends_begun file due e small b (inl w) = inr (inr ((file, e, small, b, w.0), w.1))
  ends_begun file due e small b (inr n) = inr (inl ((file, e, inr (inr n.0)), n.1))

  ends_small : (file : List ℕ) (acts : List Act) (due : Result (Unit {0}) Halt) (so : Bool) → begins head file ≡ so → files log ≡ Some file → length file ≤ log_limit → IsFileDue file (other_head head file) acts due → FileEnds due
  ends_small file acts due true b e small m = ends_begun file due e small b (dump_ends file acts due (subst (λ (o : Option Halt). IsFileDue file o acts due) (same_head head file b) m))
  ends_small file acts due false b e small m =
      let k = subst (λ (o : Option Halt). IsFileDue file o acts due) (another_head head file b) m in
      inr (inl ((file, e, inr (inl b)), (0, k.1)))

  ends_sized : (file : List ℕ) (acts : List Act) (due : Result (Unit {0}) Halt) (large : Bool) → nat_lt log_limit (length file) ≡ large → files log ≡ Some file
      → IsFileDue file (within log_limit (halt.LogRefused log_limit) (other_head head) file) acts due → FileEnds due
  ends_sized file acts due true l e m =
      let k = subst (λ (o : Option Halt). IsFileDue file o acts due) (too_large head file l) m in
      inr (inl ((file, e, inl (is_large (length file) l)), (log_limit, k.1)))
  ends_sized file acts due false l e m =
      ends_small file acts due (begins head file) refl e (is_small (length file) l) (subst (λ (o : Option Halt). IsFileDue file o acts due) (not_large head file l) m)

  ends_read : (file : Option (List ℕ)) (acts : List Act) (due : Result (Unit {0}) Halt) → files log ≡ file
      → IsFileDue (bytes_of file) (file_halt log (within log_limit (halt.LogRefused log_limit) (other_head head)) file) acts due → FileEnds due
  ends_read None acts due e m = inl (e, m.1)
  ends_read (Some file) acts due e m = ends_sized file acts due (nat_lt log_limit (length file)) refl e m

  pub file_ends : (acts : List Act) (due : Result (Unit {0}) Halt) → IsFileDump files head log acts due → FileEnds due
  file_ends acts due m = ends_read (files log) acts due refl m

  same_file : (a b : List ℕ) → files log ≡ Some a → files log ≡ Some b → a ≡ b
  same_file a b e f = let same : Some a ≡ Some b = sym e ∙ f in cc same

  never_both : IsRefusedLog files head log → IsGoodLog files head log → ⊥
  never_both bad good = by_cause bad.2
    where
      same : bad.0 ≡ good.0
      same = same_file bad.0 good.0 bad.1 good.1

      not_both : true ≡ false → ⊥
      not_both e = absurd (cc e)

      by_cause : (log_limit < length bad.0) ⊎ ((begins head bad.0 ≡ false) ⊎ (IsWholeLog bad.0 → ⊥)) → ⊥
      by_cause (inl large) = absurd (omega (arith, large, ap length same, good.2))
      by_cause (inr (inl other)) = not_both (sym good.3 ∙ (ap (begins head) (sym same) ∙ other))
      by_cause (inr (inr none)) = none (subst IsWholeLog (sym same) good.4)

  never_there : {A : Type 0} (file : List ℕ) → files log ≡ None → files log ≡ Some file → A
  never_there file e f = absurd (cc (sym e ∙ f))

pub status_by : (s : Status) (due other : Result (Unit {0}) Halt) → due ≡ other → (outcome_of [] due).status ≡ s → (outcome_of [] other).status ≡ s
status_by s due other e h = sym (ap (λ (d : Result (Unit {0}) Halt). (outcome_of [] d).status) e) ∙ h

-- a dump asks no shelf
no_shelf_file : (files : List ℕ → Option (List ℕ)) (head log : List ℕ) (due : Result (Unit {0}) Halt) → FileEnds files head log due → (outcome_of [] due).status ≢ is.ShelfEmpty
no_shelf_file files head log due (inl a) = λ e. absurd (cc (status_by is.ShelfEmpty due (Err (halt.Absent log)) a.1 e))
no_shelf_file files head log due (inr (inl a)) = λ e. absurd (cc (status_by is.ShelfEmpty due (Err (halt.LogRefused a.1.0)) a.1.1 e))
no_shelf_file files head log due (inr (inr a)) = λ e. absurd (cc (status_by is.ShelfEmpty due (Ok tt) a.1 e))

pub never_going : (s : Status) (ended : Result (Unit {0}) Halt) (next : List Act → Result (Unit {0}) Halt → Type 0) (own acts : List Act) (due : Result (Unit {0}) Halt)
    → ((more : List Act) → next more due → ⊥) → (outcome_of [] ended).status ≢ s → GoesOn ended next own acts due → (outcome_of [] due).status ≡ s → ⊥
never_going s (Ok done) next own acts due never other g h = never g.0 g.1
never_going s (Err x) next own acts due never other g h = other (status_by s due (Err x) g.1 h)

no_shelf_dumped : (files : List ℕ → Option (List ℕ)) (head : List ℕ) (logs : List (List ℕ)) (acts : List Act) (due : Result (Unit {0}) Halt) → AreDumped files head logs acts due → (outcome_of [] due).status ≡ is.ShelfEmpty → ⊥
no_shelf_dumped files head [] acts due m e = absurd (cc (status_by is.ShelfEmpty due (Ok tt) m.1 e))
no_shelf_dumped files head (log ∷ logs) acts due m e =
    let after = head_after head (bytes_of (files log)) in
    never_going is.ShelfEmpty m.1 (AreDumped files after logs) m.0 acts due (λ more k. no_shelf_dumped files after logs more due k e) (no_shelf_file files head log m.1 (file_ends files head log m.0 m.1 m.2)) m.3 e

pub short_exactly : ShortExactly
short_exactly stock files None o h = (λ e. absurd (cc (sym (ap (λ (t : Outcome). t.status) h) ∙ e)), λ s. absurd s)
short_exactly stock files (Some (Check definitions site)) o h = (
  λ e. absurd (of_check is.ShelfEmpty shelf_is_other files definitions site h.acts h.due h.is (has_status is.ShelfEmpty shelf_is_other h.acts h.due o h.outcome e)),
  λ s. absurd s,
)
short_exactly stock files (Some (Dump logs)) o h = (
  λ e. absurd (no_shelf_dumped files [] logs h.acts h.due h.is (has_status is.ShelfEmpty shelf_is_other h.acts h.due o h.outcome e)),
  λ s. absurd s,
)
short_exactly stock files (Some (Extract definitions log w)) o h = (
  λ e. absurd (extract_other is.ShelfEmpty shelf_is_other (λ k. absurd (cc k)) (λ k. absurd (cc k)) files definitions log w h.acts h.due h.is (has_status is.ShelfEmpty shelf_is_other h.acts h.due o h.outcome e)),
  λ s. absurd s,
)
short_exactly stock files (Some (Replay definitions site script)) o h =
    let done = IsDone files (Replay definitions site script) in
    let after = script_phase files (site_asked files definitions site) script ∷ [] in (
      λ e. short_where stock files definitions site (site_asked files definitions site) after done (replay_never files definitions site script) h.acts h.due h.is (has_status is.ShelfEmpty shelf_is_other h.acts h.due o h.outcome e),
      λ s. short_told stock files definitions site (site_asked files definitions site) after done (replay_never files definitions site script) h.acts h.due o h.outcome h.is s,
    )
short_exactly stock files (Some (Play definitions site log)) o h =
    let y = site_asked files definitions site in
    let done = IsDone files (Play definitions site log) in
    let never = play_after is.ShelfEmpty shelf_is_other (λ k. absurd (cc k)) files y log in (
      λ e. short_where stock files definitions site (played 2 y) (log_phases files log) done never h.acts h.due h.is (has_status is.ShelfEmpty shelf_is_other h.acts h.due o h.outcome e),
      λ s. short_told stock files definitions site (played 2 y) (log_phases files log) done never h.acts h.due o h.outcome h.is s,
    )
short_exactly stock files (Some (Rehearse n)) o h =
    let done = IsDone files (Rehearse n) in (
      λ e. short_where stock demo_files definitions_name site_name (site_asked demo_files definitions_name site_name) [] done (rehearsal_never files n) h.acts h.due h.is (has_status is.ShelfEmpty shelf_is_other h.acts h.due o h.outcome e),
      λ s. short_told stock demo_files definitions_name site_name (site_asked demo_files definitions_name site_name) [] done (rehearsal_never files n) h.acts h.due o h.outcome h.is s,
    )
short_exactly stock files (Some (Hub definitions site script below tie)) o h = (
  λ e. short_hub_where stock files definitions site script below tie h.acts h.due h.is (has_status is.ShelfEmpty shelf_is_other h.acts h.due o h.outcome e),
  λ s. short_hub_so stock files definitions site script below tie h.acts h.due o h.outcome h.is s,
)

-- ---- a log that is refused

module _ (files : List ℕ → Option (List ℕ)) (head log : List ℕ) (logs : List (List ℕ)) (ended : Result (Unit {0}) Halt) (own acts : List Act) (due : Result (Unit {0}) Halt) where
  abbrev later : List ℕ
  later = head_after head (bytes_of (files log))

  abbrev Goes : Result (Unit {0}) Halt → Type 0
  Goes e = GoesOn e (AreDumped files later logs) own acts due

  -- one of the files was refused, where the dump ends so
  refused_going : FileEnds files head log ended → Goes ended → ((more : List Act) → AreDumped files later logs more due → HasRefused files later logs) → (outcome_of [] due).status ≡ is.LogRefused
      → HasRefused files head (log ∷ logs)
  refused_going (inl a) g tell h = let g' = subst Goes a.1 g in absurd (cc (status_by is.LogRefused due (Err (halt.Absent log)) g'.1 h))
  refused_going (inr (inl a)) g tell h = inl a.0
  refused_going (inr (inr a)) g tell h = let g' = subst Goes a.1 g in inr (a.0, tell g'.0 g'.1)

  -- and it ends so, where one is
  going_refused : FileEnds files head log ended → Goes ended → ((more : List Act) → AreDumped files later logs more due → HasRefused files later logs → (outcome_of [] due).status ≡ is.LogRefused)
      → HasRefused files head (log ∷ logs) → (outcome_of [] due).status ≡ is.LogRefused
  going_refused (inl a) g tell (inl b) = never_there files head log b.0 a.0 b.1
  going_refused (inl a) g tell (inr b) = never_there files head log b.0.0 a.0 b.0.1
  going_refused (inr (inl a)) g tell b = let g' = subst Goes a.1.1 g in ap (λ (d : Result (Unit {0}) Halt). (outcome_of [] d).status) g'.1
  going_refused (inr (inr a)) g tell (inl b) = absurd (never_both files head log b a.0)
  going_refused (inr (inr a)) g tell (inr b) = let g' = subst Goes a.1 g in tell g'.0 g'.1 b.1

dumped_refused : (files : List ℕ → Option (List ℕ)) (head : List ℕ) (logs : List (List ℕ)) (acts : List Act) (due : Result (Unit {0}) Halt) → AreDumped files head logs acts due → (outcome_of [] due).status ≡ is.LogRefused → HasRefused files head logs
dumped_refused files head [] acts due m e = absurd (cc (status_by is.LogRefused due (Ok tt) m.1 e))
dumped_refused files head (log ∷ logs) acts due m e =
    refused_going files head log logs m.1 m.0 acts due (file_ends files head log m.0 m.1 m.2) m.3 (λ more k. dumped_refused files (head_after head (bytes_of (files log))) logs more due k e) e

refused_dumped : (files : List ℕ → Option (List ℕ)) (head : List ℕ) (logs : List (List ℕ)) (acts : List Act) (due : Result (Unit {0}) Halt) → AreDumped files head logs acts due → HasRefused files head logs → (outcome_of [] due).status ≡ is.LogRefused
refused_dumped files head [] acts due m b = absurd b
refused_dumped files head (log ∷ logs) acts due m b =
    going_refused files head log logs m.1 m.0 acts due (file_ends files head log m.0 m.1 m.2) m.3 (λ more k r. refused_dumped files (head_after head (bytes_of (files log))) logs more due k r) b

same_logs : (a b : List (List ℕ)) → Some (Dump a) ≡ Some (Dump b) → a ≡ b
same_logs a b e = cc e

log_told : (stock : List Meaning) (files : List ℕ → Option (List ℕ)) (logs : List (List ℕ)) (o : Outcome) → IsOutcome stock files (Some (Dump logs)) o → IsBadLog files (Some (Dump logs)) → o.status ≡ is.LogRefused
log_told stock files logs o h b =
    let bad : HasRefused files [] logs = subst (HasRefused files []) (sym (same_logs logs b.logs b.asked_is)) b.bad in
    ap (λ (t : Outcome). t.status) h.outcome ∙ (status_alone is.LogRefused log_is_other h.acts h.due ∙ refused_dumped files [] logs h.acts h.due h.is bad)

no_log_checked : (a b : List ℕ) (c : List (List ℕ)) → Some (Check a b) ≡ Some (Dump c) → ⊥
no_log_checked a b c same = absurd (cc same)

no_log_replayed : (a b c : List ℕ) (d : List (List ℕ)) → Some (Replay a b c) ≡ Some (Dump d) → ⊥
no_log_replayed a b c d same = absurd (cc same)

no_log_short : (stock : List Meaning) (site : SiteData) (kind : Option Kind) → Other is.LogRefused log_is_other (option_map (short_halt stock site) kind)
no_log_short stock site None = tt
no_log_short stock site (Some kind) = λ e. absurd (cc e)

replay_not_log : (stock : List Meaning) (files : List ℕ → Option (List ℕ)) (definitions site script : List ℕ) (acts : List Act) (due : Result (Unit {0}) Halt)
    → IsDueOf (phases stock files (Replay definitions site script)) (IsDone files (Replay definitions site script)) acts due → (outcome_of [] due).status ≢ is.LogRefused
replay_not_log stock files definitions site script acts due m =
    let s = is.LogRefused in
    let other = log_is_other in
    let y = site_asked files definitions site in
    of_phases s other (first_halt (phases stock files (Replay definitions site script))) (IsDone files (Replay definitions site script) acts due) acts due
    (other_or s other (definitions_phase files definitions).halts _ (of_file s other Configuration definitions definitions_read (files definitions))
    (other_or s other (site_phase files (definitions_asked files definitions) site).halts _ (of_file s other Configuration site (site_read (definitions_asked files definitions)) (files site))
    (other_or s other (shelf_phase stock y).halts _ (no_log_short stock y (short_kind stock y)) (of_script s other files definitions site y script))))
    (λ d e. of_replay s other (digest_asked files definitions) y script (events_asked files y script) acts due d e) m

no_log_hub : (a b c d : List ℕ) (t : TieData) (e : List (List ℕ)) → Some (Hub a b c d t) ≡ Some (Dump e) → ⊥
no_log_hub a b c d t e same = absurd (cc same)

no_log_rehearsed : (n : ℕ) (d : List (List ℕ)) → Some (Rehearse n) ≡ Some (Dump d) → ⊥
no_log_rehearsed n d same = absurd (cc same)

rehearsal_not_log : (stock : List Meaning) (files : List ℕ → Option (List ℕ)) (n : ℕ) (acts : List Act) (due : Result (Unit {0}) Halt)
    → IsDueOf (phases stock files (Rehearse n)) (IsDone files (Rehearse n)) acts due → (outcome_of [] due).status ≢ is.LogRefused
rehearsal_not_log stock files n acts due m =
    let s = is.LogRefused in
    let other = log_is_other in
    of_phases s other (first_halt (phases stock files (Rehearse n))) (IsDone files (Rehearse n) acts due) acts due
    (other_or s other (definitions_phase demo_files definitions_name).halts _ (of_file s other Configuration definitions_name definitions_read (demo_files definitions_name))
    (other_or s other (site_phase demo_files (definitions_asked demo_files definitions_name) site_name).halts _ (of_file s other Configuration site_name (site_read (definitions_asked demo_files definitions_name)) (demo_files site_name))
    (other_or s other (shelf_phase stock demo_site).halts _ (no_log_short stock demo_site (short_kind stock demo_site)) tt)))
    (λ d e. of_rehearsal s other demo_site n acts due d e) m

-- Which outcomes have the status of a log that is refused, of commands that put no columns and play nothing.
abbrev pub RefusedSo : (List ℕ → Option (List ℕ)) → Option Command → Outcome → Type 0
RefusedSo files (Some (Extract definitions log w)) o = Unit {0}
RefusedSo files (Some (Play definitions site log)) o = Unit {0}
RefusedSo files asked o = (o.status ≡ is.LogRefused) ↔ IsBadLog files asked

pub dumps_refused : (stock : List Meaning) (files : List ℕ → Option (List ℕ)) (asked : Option Command) (o : Outcome) → IsOutcome stock files asked o → RefusedSo files asked o
dumps_refused stock files None o h = (λ e. absurd (cc (sym (ap (λ (t : Outcome). t.status) h) ∙ e)), λ b. absurd (cc (b.asked_is)))
dumps_refused stock files (Some (Check definitions site)) o h = (
  λ e. absurd (of_check is.LogRefused log_is_other files definitions site h.acts h.due h.is (has_status is.LogRefused log_is_other h.acts h.due o h.outcome e)),
  λ b. absurd (no_log_checked definitions site b.logs b.asked_is),
)
dumps_refused stock files (Some (Replay definitions site script)) o h = (
  λ e. absurd (replay_not_log stock files definitions site script h.acts h.due h.is (has_status is.LogRefused log_is_other h.acts h.due o h.outcome e)),
  λ b. absurd (no_log_replayed definitions site script b.logs b.asked_is),
)
dumps_refused stock files (Some (Rehearse n)) o h = (
  λ e. absurd (rehearsal_not_log stock files n h.acts h.due h.is (has_status is.LogRefused log_is_other h.acts h.due o h.outcome e)),
  λ b. absurd (no_log_rehearsed n b.logs b.asked_is),
)
dumps_refused stock files (Some (Dump logs)) o h = (
  λ e. record { logs = logs; asked_is = refl; bad = dumped_refused files [] logs h.acts h.due h.is (has_status is.LogRefused log_is_other h.acts h.due o h.outcome e) },
  λ b. log_told stock files logs o h b,
)
dumps_refused stock files (Some (Extract definitions log w)) o h = tt
dumps_refused stock files (Some (Play definitions site log)) o h = tt
dumps_refused stock files (Some (Hub definitions site script below tie)) o h = (
  λ e. absurd (hub_other stock files definitions site script below tie is.LogRefused log_is_other (λ k. absurd (cc k)) (λ k. absurd (cc k)) (λ k. absurd (cc k)) h.acts h.due h.is (has_status is.LogRefused log_is_other h.acts h.due o h.outcome e)),
  λ b. absurd (no_log_hub definitions site script below tie b.logs b.asked_is),
)
