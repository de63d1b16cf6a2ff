-- A rehearsal comes to its end.
use Rattle.std.proofs.Common.{◌≡◌, ◌∙◌, ℕ, ◌≤◌, Bool, true, false, List, [], ◌∷◌, ◌++◌, Option, Some, None, MatchOption, Result, Ok, Err, codes, option_map, refl, sym, ap, subst, arith, inl, inr}
use Rattle.std.specs.Prelude.{if◌then◌else◌, nat_le, nat_lt, slice_index, ℤ, pos, negsuc, ◌&&◌, length, ◌⊎◌}
use Rattle.std.specs.Option.{option_or}
use Rattle.cts_base.specs.Wholes.{whole_of}
use Rattle.cts_def.specs.declared.proto_spec.Kind.{Kind}
use Rattle.cts_outside.specs.Causes.{Rose}
use Rattle.cts_outside.specs.Seen.{FilesSeen, SinkSeen, VaultSeen}
use Rattle.cts_proto.specs.Meaning.{Meaning}
use Rattle.cts_rehearsal_runs.proofs.Finishing.{rehearsals_finish}
use Rattle.cts_trace.proofs.Walks.{enough_of}
use Rattle.cts_run.specs.Acts.{Act, Outside, PutFails, outside}
use Rattle.cts_run.specs.Command.{DoesOf, IsReadIn, Outcome, Performs, first_phases, outcome_of}
use Rattle.cts_run.specs.Demo.{definitions_name, demo_files, demo_site, site_name}
use Rattle.cts_run.specs.Endings.{Ends, halt_status}
use Rattle.cts_run.specs.Load.{site_phases}
use Rattle.cts_run.specs.Phases.{FileCounts, first_halt}
use Rattle.cts_run.specs.Putting.{VaultCounts}
use Rattle.cts_run.specs.Rehearsal.{IsRehearsal, rehearsal_answer}
use Rattle.cts_run.specs.Rehearsed.{AnswersRehearsed, EndsRehearsed, IsRehearsed, RehearsalsAreDone, rehearsed}
use Rattle.cts_run.specs.Start.{shelf_phase, short_halt, short_kind}
use Rattle.cts_run.specs.Words.{asked, asked_of, dump_asked, extract_asked, hub_asked, is_word, most, most_logs, rehearsal_number, up_to_most}
use Rattle.cts_extract.specs.Words.{kind_named}
use Rattle.cts_run.specs.Wanted.{WantedData, wanted_of}
use Rattle.cts_run.specs.declared.halt.Halt.{Halt}
use Rattle.cts_run.specs.declared.halt.Halt.TheVariants as halt
use Rattle.cts_run.specs.declared.halt.status.Status.{Status}
use Rattle.cts_run.specs.declared.halt.status.Status.TheVariants as is
use Rattle.cts_run.specs.declared.words.Command.{Command}
use Rattle.cts_run.specs.declared.words.Command.TheVariants.{Check, Dump, Extract, Hub, Play, Rehearse, Replay}
use Rattle.cts_run.proofs.CommandLemmas.{no_vault}
use Rattle.cts_run.proofs.DemoLemmas.{demo_is_taken, is_demo_site}
use Rattle.cts_run.proofs.PhaseLemmas.{first_past}

-- ---- what is due

-- nothing but the shelf is a reason to halt
first_is : (stock : List Meaning) → first_halt (first_phases stock demo_files definitions_name site_name) ≡ option_map (short_halt stock demo_site) (short_kind stock demo_site)
first_is stock =
    first_past (site_phases demo_files definitions_name site_name) (shelf_phase stock demo_site ∷ []) demo_is_taken ∙ or_none (option_map (short_halt stock demo_site) (short_kind stock demo_site))
  where
    or_none : (h : Option Halt) → option_or h None ≡ h
    or_none None = refl
    or_none (Some halt) = refl

due_is : (n : ℕ) → n ≤ most → (acts : List Act) (due : Result (Unit {0}) Halt) → IsRehearsal demo_site n acts due → due ≡ Ok tt
due_is n few acts due r = r.due_is ∙ ap (rehearsal_answer r.dids) (rehearsals_finish demo_site is_demo_site n few r.dids r.ending r.runs)

abbrev Due : List Meaning → ℕ → List Act → Result (Unit {0}) Halt → Option Halt → Type 0
Due stock n acts due first = MatchOption first (IsRehearsal demo_site n acts due) (λ halt. (acts ≡ []) × (due ≡ Err halt))

-- ---- its outcome

outcome_by : (stock : List Meaning) (n : ℕ) → n ≤ most → (acts : List Act) (due : Result (Unit {0}) Halt) (short : Option Kind) → Due stock n acts due (option_map (short_halt stock demo_site) short)
    → (outcome_of acts due).status ≡ rehearsed short
outcome_by stock n few acts due None d = ap (λ (r : Result (Unit {0}) Halt). (outcome_of acts r).status) (due_is n few acts due d)
outcome_by stock n few acts due (Some kind) d = ap (λ (r : Result (Unit {0}) Halt). (outcome_of acts r).status) d.1

pub rehearsals_are_done : RehearsalsAreDone
rehearsals_are_done stock files n o few h =
    ap (λ (x : Outcome). x.status) h.outcome
    ∙ outcome_by stock n few h.acts h.due (short_kind stock demo_site) (subst (Due stock n h.acts h.due) (first_is stock) h.is)

-- ---- its answer

abbrev no_files : FilesSeen
no_files = record { told = None; faults = 0; absences = 0 }

no_rise : {A : Type 0} → Rose 0 0 → A
no_rise r = absurd (omega (arith, r.1))

module _ (acts : List Act) (due : Result (Unit {0}) Halt) (reads : List Act → List ℕ → Type 0) (old new : Outside) where
  done_so : due ≡ Ok tt → (answer : Result (Unit {0}) Halt) → DoesOf reads acts due answer old new → FileCounts answer no_files no_files → VaultCounts answer no_vault no_vault → EndsRehearsed None (outcome_of [] answer).status
  done_so e (Ok done) d f v = refl
  done_so e (Err halt.Memory) d f v = tt
  done_so e (Err halt.WriteFault) d f v = refl
  done_so e (Err (halt.ReadFault name)) d f v = no_rise f.0
  done_so e (Err halt.LogFault) d f v = no_rise v
  done_so e (Err (halt.Absent name)) d f v = absurd (cc (d.0 ∙ e))
  done_so e (Err (halt.Refused name kind line cause)) d f v = absurd (cc (d.0 ∙ e))
  done_so e (Err (halt.ShelfEmpty kind needed stocked)) d f v = absurd (cc (d.0 ∙ e))
  done_so e (Err (halt.HistoryFull entries bytes)) d f v = absurd (cc (d.0 ∙ e))
  done_so e (Err (halt.LogRefused place)) d f v = absurd (cc (d.0 ∙ e))
  done_so e (Err (halt.UnknownName name)) d f v = absurd (cc (d.0 ∙ e))
  done_so e (Err (halt.HubRefused cause)) d f v = absurd (cc (d.0 ∙ e))
  done_so e (Err halt.Misused) d f v = absurd (cc (d.0 ∙ e))

  nothing_put : acts ≡ [] → PutFails acts old new → ⊥
  nothing_put none fails = never fails.before fails.act fails.rest (sym none ∙ fails.split)
    where
      never : (before : List Act) (act : Act) (rest : List Act) → [] ≡ before ++ act ∷ rest → ⊥
      never [] act rest e = absurd (cc e)
      never (a ∷ before) act rest e = absurd (cc e)

  short_so : (kind : Kind) (needed stocked : ℕ) → acts ≡ [] → due ≡ Err (halt.ShelfEmpty kind needed stocked) → (answer : Result (Unit {0}) Halt) → DoesOf reads acts due answer old new → FileCounts answer no_files no_files → VaultCounts answer no_vault no_vault
      → EndsRehearsed (Some kind) (outcome_of [] answer).status
  short_so kind needed stocked none e (Ok done) d f v = absurd (cc (d.0 ∙ e))
  short_so kind needed stocked none e (Err halt.Memory) d f v = tt
  short_so kind needed stocked none e (Err halt.WriteFault) d f v = absurd (nothing_put none d)
  short_so kind needed stocked none e (Err (halt.ReadFault name)) d f v = no_rise f.0
  short_so kind needed stocked none e (Err halt.LogFault) d f v = no_rise v
  short_so kind needed stocked none e (Err (halt.Absent name)) d f v = absurd (cc (d.0 ∙ e))
  short_so kind needed stocked none e (Err (halt.Refused name file line cause)) d f v = absurd (cc (d.0 ∙ e))
  short_so kind needed stocked none e (Err (halt.ShelfEmpty other needed' stocked')) d f v = (kind, refl)
  short_so kind needed stocked none e (Err (halt.HistoryFull entries bytes)) d f v = absurd (cc (d.0 ∙ e))
  short_so kind needed stocked none e (Err (halt.LogRefused place)) d f v = absurd (cc (d.0 ∙ e))
  short_so kind needed stocked none e (Err (halt.UnknownName name)) d f v = absurd (cc (d.0 ∙ e))
  short_so kind needed stocked none e (Err (halt.HubRefused cause)) d f v = absurd (cc (d.0 ∙ e))
  short_so kind needed stocked none e (Err halt.Misused) d f v = absurd (cc (d.0 ∙ e))

answers_by : (stock : List Meaning) (files : List ℕ → Option (List ℕ)) (n : ℕ) → n ≤ most → (acts : List Act) (due : Result (Unit {0}) Halt) (reads : List Act → List ℕ → Type 0) (old new : Outside)
    (short : Option Kind) → Due stock n acts due (option_map (short_halt stock demo_site) short) → (answer : Result (Unit {0}) Halt) → DoesOf reads acts due answer old new → FileCounts answer no_files no_files
    → VaultCounts answer no_vault no_vault → EndsRehearsed short (outcome_of [] answer).status
answers_by stock files n few acts due reads old new None is answer d f v = done_so acts due reads old new (due_is n few acts due is) answer d f v
answers_by stock files n few acts due reads old new (Some kind) is answer d f v = short_so acts due reads old new kind _ _ is.0 is.1 answer d f v

pub rehearsal_answers : (stock : List Meaning) (n : ℕ) (answer : Result (Unit {0}) Halt) (old new : SinkSeen)
    → ((files : List ℕ → Option (List ℕ)) (vault : VaultSeen) → Performs stock files (Rehearse n) answer (outside old vault) (outside new vault))
    → ((files : FilesSeen) → FileCounts answer files files) → ((vault : VaultSeen) → VaultCounts answer vault vault)
    → n ≤ most → EndsRehearsed (short_kind stock demo_site) (outcome_of [] answer).status
rehearsal_answers stock n answer old new performs files vault few =
    let p = performs demo_files no_vault in
    answers_by stock demo_files n few p.acts p.due (IsReadIn stock demo_files (Rehearse n)) (outside old no_vault) (outside new no_vault) (short_kind stock demo_site)
    (subst (Due stock n p.acts p.due) (first_is stock) p.is) answer p.does (files no_files) (vault no_vault)

-- ---- its status

ends_halted : (short : Option Kind) (halt : Halt) (status : Status) → EndsRehearsed short (halt_status halt) → (status ≡ halt_status halt) ⊎ (status ≡ is.Memory) → EndsRehearsed short status
ends_halted short halt status h (inl e) = subst (EndsRehearsed short) (sym e) h
ends_halted short halt status h (inr e) = subst (EndsRehearsed short) (sym e) tt

ends_so : (short : Option Kind) (answer : Result (Unit {0}) Halt) (status : Status) (old new : SinkSeen) → EndsRehearsed short (outcome_of [] answer).status → Ends answer status old new → EndsRehearsed short status
ends_so short (Ok done) status old new h e = subst (EndsRehearsed short) (sym e.0) h
ends_so short (Err halt) status old new h (inl e) = ends_halted short halt status h (inl e.0)
ends_so short (Err halt) status old new h (inr e) = ends_halted short halt status h (inr e.1)

-- ---- the number that words ask for

up_to : (o : Option ℤ) (n : ℕ) → up_to_most o ≡ Some n → n ≤ most
up_to None n e = absurd (cc e)
up_to (Some (negsuc k)) n e = absurd (cc e)
up_to (Some (pos k)) n e = by_test k n (nat_le k most) refl e
  where
    by_test : (k n : ℕ) (b : Bool) → nat_le k most ≡ b → (if b then Some k else None) ≡ Some n → n ≤ most
    by_test k n true t e = let same : k ≡ n = cc e in subst (λ (m : ℕ). m ≤ most) same (enough_of k most t)
    by_test k n false t e = absurd (cc e)

number_by : (a b : Bool) (word : List ℕ) (n : ℕ) → (if a then None else if b then None else up_to_most (whole_of word)) ≡ Some n → n ≤ most
number_by true b word n e = absurd (cc e)
number_by false true word n e = absurd (cc e)
number_by false false word n e = up_to (whole_of word) n e

number_few : (word : List ℕ) (n : ℕ) → rehearsal_number word ≡ Some n → n ≤ most
unfolding rehearsal_number
number_few word n e = number_by (nat_lt (slice_index word 0) 49) (nat_lt 57 (slice_index word 0)) word n e

mapped : (o : Option ℕ) (n : ℕ) → option_map Rehearse o ≡ Some (Rehearse n) → o ≡ Some n
mapped None n e = absurd (cc e)
mapped (Some k) n e = let same : k ≡ n = cc e in ap Some same

no_dump : (b : Bool) (logs : List (List ℕ)) (n : ℕ) → (if b then Some (Dump logs) else None) ≡ Some (Rehearse n) → ⊥
no_dump true logs n e = absurd (cc e)
no_dump false logs n e = absurd (cc e)

no_extract : (definitions log : List ℕ) (o : Option WantedData) (n : ℕ) → option_map (Extract definitions log) o ≡ Some (Rehearse n) → ⊥
no_extract definitions log None n e = absurd (cc e)
no_extract definitions log (Some wanted) n e = absurd (cc e)

extract_no : (words : List (List ℕ)) (n : ℕ) → extract_asked words ≡ Some (Rehearse n) → ⊥
extract_no [] n e = absurd (cc e)
extract_no (a ∷ []) n e = absurd (cc e)
extract_no (a ∷ b ∷ []) n e = absurd (cc e)
extract_no (a ∷ b ∷ c ∷ []) n e = absurd (cc e)
extract_no (a ∷ b ∷ c ∷ d ∷ []) n e = absurd (cc e)
extract_no (a ∷ b ∷ c ∷ d ∷ f ∷ []) n e = absurd (cc e)
extract_no (a ∷ b ∷ c ∷ d ∷ f ∷ g ∷ []) n e = no_extract a b (wanted_of c d g (kind_named f)) n e
extract_no (a ∷ b ∷ c ∷ d ∷ f ∷ g ∷ h ∷ words) n e = absurd (cc e)

hub_no : (words : List (List ℕ)) (n : ℕ) → hub_asked words ≡ Some (Rehearse n) → ⊥
hub_no [] n e = absurd (cc e)
hub_no (a ∷ []) n e = absurd (cc e)
hub_no (a ∷ b ∷ []) n e = absurd (cc e)
hub_no (a ∷ b ∷ c ∷ []) n e = absurd (cc e)
hub_no (a ∷ b ∷ c ∷ d ∷ []) n e = absurd (cc e)
hub_no (a ∷ b ∷ c ∷ d ∷ f ∷ []) n e = absurd (cc e)
hub_no (a ∷ b ∷ c ∷ d ∷ f ∷ g ∷ []) n e = absurd (cc e)
hub_no (a ∷ b ∷ c ∷ d ∷ f ∷ g ∷ h ∷ []) n e = absurd (cc e)
hub_no (a ∷ b ∷ c ∷ d ∷ f ∷ g ∷ h ∷ i ∷ words) n e = absurd (cc e)

one_word : (b : Bool) (word : List ℕ) (n : ℕ) → (if b then option_map Rehearse (rehearsal_number word) else None) ≡ Some (Rehearse n) → n ≤ most
one_word true word n e = number_few word n (mapped (rehearsal_number word) n e)
one_word false word n e = absurd (cc e)

no_check : (b : Bool) (definitions site : List ℕ) (n : ℕ) → (if b then Some (Check definitions site) else None) ≡ Some (Rehearse n) → ⊥
no_check true definitions site n e = absurd (cc e)
no_check false definitions site n e = absurd (cc e)

no_sited : (a b : Bool) (definitions site last : List ℕ) (n : ℕ) → (if a then Some (Replay definitions site last) else if b then Some (Play definitions site last) else None) ≡ Some (Rehearse n) → ⊥
no_sited true b definitions site last n e = absurd (cc e)
no_sited false true definitions site last n e = absurd (cc e)
no_sited false false definitions site last n e = absurd (cc e)

of_few : (command : List ℕ) (words : List (List ℕ)) (n : ℕ) → asked_of command words ≡ Some (Rehearse n) → n ≤ most
of_few command [] n e = absurd (cc e)
of_few command (word ∷ []) n e = one_word (is_word command (codes "rehearse")) word n e
of_few command (a ∷ b ∷ []) n e = absurd (no_check (is_word command (codes "check")) a b n e)
of_few command (a ∷ b ∷ c ∷ []) n e = absurd (no_sited (is_word command (codes "replay")) (is_word command (codes "play")) a b c n e)
of_few command (a ∷ b ∷ c ∷ d ∷ words) n e = absurd (cc e)

by_name : (a b c : Bool) (command : List ℕ) (words : List (List ℕ)) (n : ℕ) → (if a then dump_asked words else if b then extract_asked words else if c then hub_asked words else asked_of command words) ≡ Some (Rehearse n) → n ≤ most
by_name true b c command words n e = absurd (no_dump (nat_lt 0 (length words) && nat_le (length words) most_logs) words n e)
by_name false true c command words n e = absurd (extract_no words n e)
by_name false false true command words n e = absurd (hub_no words n e)
by_name false false false command words n e = of_few command words n e

asked_few : (words : List (List ℕ)) (n : ℕ) → asked words ≡ Some (Rehearse n) → n ≤ most
asked_few [] n e = absurd (cc e)
asked_few (command ∷ words) n e = by_name (is_word command (codes "dump")) (is_word command (codes "extract")) (is_word command (codes "hub")) command words n e

-- ---- what is asked for

pub misused_rehearsed : (stock : List Meaning) (asks : Option Command) (status : Status) → asks ≡ None → IsRehearsed stock asks status
misused_rehearsed stock asks status e = subst (λ (a : Option Command). IsRehearsed stock a status) (sym e) tt

command_by : (stock : List Meaning) (words : List (List ℕ)) (command : Command) (answer : Result (Unit {0}) Halt) (status : Status) (old new : SinkSeen) → asked words ≡ Some command → AnswersRehearsed stock command answer → Ends answer status old new
    → IsRehearsed stock (Some command) status
command_by stock words (Check definitions site) answer status old new e h k = tt
command_by stock words (Replay definitions site script) answer status old new e h k = tt
command_by stock words (Rehearse n) answer status old new e h k = ends_so (short_kind stock demo_site) answer status old new (h (asked_few words n e)) k
command_by stock words (Dump logs) answer status old new e h k = tt
command_by stock words (Play definitions site log) answer status old new e h k = tt
command_by stock words (Extract definitions log wanted) answer status old new e h k = tt
command_by stock words (Hub definitions site script below tie) answer status old new e h k = tt

pub command_rehearsed : (stock : List Meaning) (words : List (List ℕ)) (command : Command) (answer : Result (Unit {0}) Halt) (status : Status) (old new : SinkSeen) → asked words ≡ Some command → AnswersRehearsed stock command answer → Ends answer status old new
    → IsRehearsed stock (asked words) status
command_rehearsed stock words command answer status old new e h k = subst (λ (a : Option Command). IsRehearsed stock a status) (sym e) (command_by stock words command answer status old new e h k)
