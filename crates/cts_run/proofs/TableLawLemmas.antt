-- Laws of columns: they are one, and which statuses come where.
use Rattle.std.proofs.Common.{◌≡◌, ◌≢◌, ℕ, ◌<◌, ◌≤◌, Bool, true, false, nat_eq, List, [], ◌∷◌, length, Option, Some, None, option_map, MatchOption, Result, Err, refl, sym, ◌∙◌, ap, ap₂, subst, arith, ◌⊎◌, inl, inr}
use Rattle.std.specs.Prelude.{nat_lt, is_some, if◌then◌else◌}
use Rattle.std.specs.Option.{option_or}
use Rattle.std.proofs.lemmas.Bool.Decides.{nat_tests}
use Rattle.cts_def.specs.Packets.{DefinitionsData}
use Rattle.cts_extract.specs.Columns.{packet_named}
use Rattle.cts_log.proofs.ReadOnce.{logs_are_read_once, no_head_no_read}
use Rattle.cts_log.specs.Files.{kind_of}
use Rattle.cts_log.specs.Logged.{Logged}
use Rattle.cts_log.specs.Reading.{IsLogRead}
use Rattle.cts_log.specs.declared.kind.LogKind.{LogKind}
use Rattle.cts_run.specs.Acts.{Act}
use Rattle.cts_run.specs.Command.{IsDone, IsDueOf, outcome_of}
use Rattle.cts_run.specs.Dump.{IsNoLog, dump_answer}
use Rattle.cts_run.specs.Endings.{halt_status}
use Rattle.cts_run.specs.Extract.{columns_phase, IsExtract, extract_phases, has_commands, head_halt, table_of, table_phases, unknown_word}
use Rattle.cts_run.specs.Laws.{IsBadTable, IsUnknownName, IsWholeLog}
use Rattle.cts_run.specs.Load.{bytes_of, definitions_asked, definitions_phase, definitions_read}
use Rattle.cts_run.specs.Load.Files.{log_limit, within}
use Rattle.cts_run.specs.Phases.{Phase, asking, file_halt, first_halt, reading}
use Rattle.cts_run.specs.Wanted.{WantedData}
use Rattle.cts_run.specs.declared.halt.Halt.{Halt}
use Rattle.cts_run.specs.declared.halt.Halt.TheVariants as halt
use Rattle.cts_run.specs.declared.halt.file_kind.FileKind.TheVariants.{Configuration}
use Rattle.cts_run.specs.declared.halt.status.Status.{Status}
use Rattle.cts_run.specs.declared.halt.status.Status.TheVariants as is
use Rattle.cts_run.specs.declared.words.Command.TheVariants.{Extract}
use Rattle.cts_run.proofs.ExtractLemmas.{kind_read}
use Rattle.cts_run.proofs.PhaseLemmas.{first_past, none_alone}
use Rattle.cts_run.proofs.StatusLemmas.{Has, IsOther, Other, name_is_other, of_file, of_phases, other_or}

-- the columns of a log are one
pub one_table : (d : DefinitionsData) (w : WantedData) (file : List ℕ) (acts other : List Act) (due answer : Result (Unit {0}) Halt) → IsExtract d w file acts due → IsExtract d w file other answer → (acts ≡ other) × (due ≡ answer)
one_table d w file acts other due answer (inl a) (inl b) =
    let same = logs_are_read_once file a.kind b.kind a.flagged b.flagged a.entries b.entries a.place b.place a.read b.read in (
      a.acts_are ∙ (ap₂ (λ (es : List Logged) (kind : LogKind). table_of w es (packet_named d (has_commands kind) w.target w.packet)) same.2 same.0 ∙ sym b.acts_are),
      a.due_is ∙ (ap (λ (n : ℕ). dump_answer n (length file)) same.3 ∙ sym b.due_is),
    )
one_table d w file acts other due answer (inl a) (inr b) = absurd (no_head_no_read file a.kind a.flagged a.entries a.place b.none a.read)
one_table d w file acts other due answer (inr a) (inl b) = absurd (no_head_no_read file b.kind b.flagged b.entries b.place a.none b.read)
one_table d w file acts other due answer (inr a) (inr b) = (a.nothing ∙ sym b.nothing, a.refused ∙ sym b.refused)

-- statuses that columns do not have
module _ (s : Status) (other : IsOther s) (log_other : is.LogRefused ≢ s) where
  pub ends_other : (place n : ℕ) (whole : Bool) → nat_eq place n ≡ whole → (outcome_of [] (dump_answer place n)).status ≡ s → ⊥
  ends_other place n true e = rw e (λ k. other.ok k)
  ends_other place n false e = rw e (λ k. log_other k)

  no_log_other : (file : List ℕ) (acts : List Act) (due : Result (Unit {0}) Halt) → IsNoLog file acts due → Has s other due → ⊥
  no_log_other file acts due a e = log_other (subst (Has s other) a.refused e)

  size_other : (bytes : List ℕ) (large : Bool) → nat_lt log_limit (length bytes) ≡ large → Other s other (within log_limit (halt.LogRefused log_limit) (λ b. None) bytes)
  size_other bytes true e = rw e log_other
  size_other bytes false e = rw e tt

  pub columns_phase_other : (log : List ℕ) (file : Option (List ℕ)) → Other s other (file_halt log (within log_limit (halt.LogRefused log_limit) (λ b. None)) file)
  columns_phase_other log None = other.absent
  columns_phase_other log (Some bytes) = size_other bytes (nat_lt log_limit (length bytes)) refl

  pub table_status : (d : DefinitionsData) (w : WantedData) (file : List ℕ) (acts : List Act) (due : Result (Unit {0}) Halt) → IsExtract d w file acts due → Has s other due → ⊥
  table_status d w file acts due (inl a) e = ends_other a.place (length file) (nat_eq a.place (length file)) refl (subst (Has s other) a.due_is e)
  table_status d w file acts due (inr a) e = no_log_other file acts due a e

  module _ (unknown_other : is.UnknownName ≢ s) where
    head_other : (k : Option LogKind) → Other s other (if is_some k then None else Some (halt.LogRefused 0))
    head_other None = log_other
    head_other (Some kind) = tt

    word_other : (word : Option (List ℕ)) → Other s other (option_map halt.UnknownName word)
    word_other None = tt
    word_other (Some word) = unknown_other

    pub extract_other : (files : List ℕ → Option (List ℕ)) (definitions log : List ℕ) (w : WantedData) (acts : List Act) (due : Result (Unit {0}) Halt)
        → IsDueOf (extract_phases files definitions log w) (IsDone files (Extract definitions log w)) acts due → Has s other due → ⊥
    extract_other files definitions log w acts due m e =
        let d = definitions_asked files definitions in
        let file = bytes_of (files log) in
        let words = option_map halt.UnknownName (unknown_word d w (kind_of file)) in
        of_phases s other (first_halt (extract_phases files definitions log w)) (IsDone files (Extract definitions log w) acts due) acts due
        (other_or s other (definitions_phase files definitions).halts _ (of_file s other Configuration definitions definitions_read (files definitions))
        (other_or s other (columns_phase files log).halts _ (columns_phase_other log (files log))
        (other_or s other (head_halt file) _ (head_other (kind_of file)) (other_or s other words None (word_other (unknown_word d w (kind_of file))) tt))))
        (λ k h. table_status d w file acts due k h) m e

-- ---- where the file ends

pub at_end : (place n : ℕ) → place ≡ n → (outcome_of [] (dump_answer place n)).status ≢ is.LogRefused
at_end place n e = let same : nat_eq place n ≡ true = grind (arith, nat_tests) in rw same (λ k. absurd (cc k))

pub before_end : (place n : ℕ) → nat_eq place n ≡ false → (outcome_of [] (dump_answer place n)).status ≡ is.LogRefused
before_end place n e = rw e refl

pub by_place : (file : List ℕ) (place : ℕ) (whole : Bool) → nat_eq place (length file) ≡ whole → (place ≡ length file → ⊥) → (outcome_of [] (dump_answer place (length file))).status ≡ is.LogRefused
by_place file place false e n = before_end place (length file) e
by_place file place true e n = absurd (n (grind (arith, nat_tests)))

-- ---- where they are refused, and where a word names nothing

-- a phase that has no reason to halt, and one that has one
pub step_none : (p : Phase) (ps : List Phase) (done : List Act → Result (Unit {0}) Halt → Type 0) (acts : List Act) (due : Result (Unit {0}) Halt) → p.halts ≡ None → IsDueOf (p ∷ ps) done acts due → IsDueOf ps done acts due
step_none p ps done acts due e m = subst (λ (o : Option Halt). MatchOption o (done acts due) (λ x. (acts ≡ []) × (due ≡ Err x))) (first_past (p ∷ []) ps (none_alone p e)) m

pub step_some : (p : Phase) (ps : List Phase) (done : List Act → Result (Unit {0}) Halt → Type 0) (acts : List Act) (due : Result (Unit {0}) Halt) (h : Halt) → p.halts ≡ Some h → IsDueOf (p ∷ ps) done acts due → due ≡ Err h
step_some p ps done acts due h e m = (subst (λ (o : Option Halt). MatchOption (option_or o (first_halt ps)) (done acts due) (λ x. (acts ≡ []) × (due ≡ Err x))) e m).1

-- the status of such an end
pub status_of : (due : Result (Unit {0}) Halt) (h : Halt) → due ≡ Err h → (outcome_of [] due).status ≡ halt_status h
status_of due h e = ap (λ (r : Result (Unit {0}) Halt). (outcome_of [] r).status) e

-- a file of some size
pub large_halts : (log file : List ℕ) → nat_lt log_limit (length file) ≡ true → file_halt log (within log_limit (halt.LogRefused log_limit) (λ b. None)) (Some file) ≡ Some (halt.LogRefused log_limit)
large_halts log file e = rw e refl

pub small_halts : (log file : List ℕ) → nat_lt log_limit (length file) ≡ false → file_halt log (within log_limit (halt.LogRefused log_limit) (λ b. None)) (Some file) ≡ None
small_halts log file e = rw e refl

pub is_large : (n : ℕ) → nat_lt log_limit n ≡ true → log_limit < n
is_large n e = grind (arith, nat_tests)

is_small : (n : ℕ) → nat_lt log_limit n ≡ false → n ≤ log_limit
is_small n e = grind (arith, nat_tests)

pub no_large : (n : ℕ) → log_limit < n → nat_lt log_limit n ≡ false → ⊥
no_large n l e = grind (arith, nat_tests)

no_small : (n : ℕ) → n ≤ log_limit → nat_lt log_limit n ≡ true → ⊥
no_small n l e = grind (arith, nat_tests)

-- where a table is refused its file is no whole log, and where it is none it is refused
table_never_whole : (d : DefinitionsData) (w : WantedData) (file : List ℕ) (acts : List Act) (due : Result (Unit {0}) Halt) → IsExtract d w file acts due → (outcome_of [] due).status ≡ is.LogRefused → IsWholeLog file → ⊥
table_never_whole d w file acts due (inl a) e x =
    let same = logs_are_read_once file a.kind x.0 a.flagged x.1 a.entries x.2 a.place (length file) a.read x.3 in
    at_end a.place (length file) same.3 (subst (λ (d : Result (Unit {0}) Halt). (outcome_of [] d).status ≡ is.LogRefused) a.due_is e)
table_never_whole d w file acts due (inr a) e x = no_head_no_read file x.0 x.1 x.2 (length file) a.none x.3

table_refused : (d : DefinitionsData) (w : WantedData) (file : List ℕ) (acts : List Act) (due : Result (Unit {0}) Halt) → IsExtract d w file acts due → (IsWholeLog file → ⊥) → (outcome_of [] due).status ≡ is.LogRefused
table_refused d w file acts due (inl a) n =
    subst (λ (d : Result (Unit {0}) Halt). (outcome_of [] d).status ≡ is.LogRefused) (sym a.due_is)
    (by_place file a.place (nat_eq a.place (length file)) refl (λ e. n (a.kind, a.flagged, a.entries, subst (λ (p : ℕ). IsLogRead file a.kind a.flagged a.entries p) e a.read)))
table_refused d w file acts due (inr a) n = status_of due (halt.LogRefused 0) a.refused

module _ (files : List ℕ → Option (List ℕ)) (definitions log : List ℕ) (w : WantedData) (acts : List Act) (due : Result (Unit {0}) Halt)
    (taken : (definitions_phase files definitions).halts ≡ None) where
  abbrev d : DefinitionsData
  d = definitions_asked files definitions

  abbrev read_phase : Option (List ℕ) → Phase
  read_phase f = reading log (within log_limit (halt.LogRefused log_limit) (λ b. None)) f

  -- what is due of a file of this content
  abbrev Table_due : Option (List ℕ) → Type 0
  Table_due f = IsDueOf (read_phase f ∷ table_phases d w (bytes_of f)) (IsExtract d w (bytes_of f)) acts due

  abbrev words_of : List ℕ → Phase
  words_of file = asking (option_map halt.UnknownName (unknown_word d w (kind_of file)))

  abbrev Has_status : Status → Type 0
  Has_status s = (outcome_of [] due).status ≡ s

  -- past the definitions
  pub past_definitions : IsDueOf (extract_phases files definitions log w) (IsDone files (Extract definitions log w)) acts due → Table_due (files log)
  past_definitions m = step_none (definitions_phase files definitions) (columns_phase files log ∷ table_phases d w (bytes_of (files log))) (IsDone files (Extract definitions log w)) acts due taken m

  module _ (file : List ℕ) (there : files log ≡ Some file) where
    abbrev done : List Act → Result (Unit {0}) Halt → Type 0
    done = IsExtract d w file

    past_file : nat_lt log_limit (length file) ≡ false → Table_due (Some file) → IsDueOf (table_phases d w file) done acts due
    past_file e m = step_none (read_phase (Some file)) (table_phases d w file) done acts due (small_halts log file e) m

    at_large : nat_lt log_limit (length file) ≡ true → Table_due (Some file) → due ≡ Err (halt.LogRefused log_limit)
    at_large e m = step_some (read_phase (Some file)) (table_phases d w file) done acts due (halt.LogRefused log_limit) (large_halts log file e) m

    head_is : (k : Option LogKind) → kind_of file ≡ k → head_halt file ≡ (if is_some k then None else Some (halt.LogRefused 0))
    head_is k e = ap (λ (k : Option LogKind). if is_some k then None else Some (halt.LogRefused 0)) e

    past_head : (kind : LogKind) → kind_of file ≡ Some kind → IsDueOf (table_phases d w file) done acts due → IsDueOf (words_of file ∷ []) done acts due
    past_head kind e m = step_none (asking (head_halt file)) (words_of file ∷ []) done acts due (head_is (Some kind) e) m

    at_head : kind_of file ≡ None → IsDueOf (table_phases d w file) done acts due → due ≡ Err (halt.LogRefused 0)
    at_head e m = step_some (asking (head_halt file)) (words_of file ∷ []) done acts due (halt.LogRefused 0) (head_is None e) m

    past_words : unknown_word d w (kind_of file) ≡ None → IsDueOf (words_of file ∷ []) done acts due → done acts due
    past_words u m = step_none (words_of file) [] done acts due (ap (option_map halt.UnknownName) u) m

    at_word : (name : List ℕ) → unknown_word d w (kind_of file) ≡ Some name → IsDueOf (words_of file ∷ []) done acts due → due ≡ Err (halt.UnknownName name)
    at_word name u m = step_some (words_of file) [] done acts due (halt.UnknownName name) (ap (option_map halt.UnknownName) u) m

    no_whole : kind_of file ≡ None → IsWholeLog file → ⊥
    no_whole e x = let never : None ≡ Some x.0 = sym e ∙ kind_read file x.0 x.1 x.2 (length file) x.3 in cc never

    -- ---- refused

    abbrev Bad : Type 0
    Bad = (log_limit < length file) ⊎ ((unknown_word d w (kind_of file) ≡ None) × (IsWholeLog file → ⊥))

    bad_by_word : (word : Option (List ℕ)) → unknown_word d w (kind_of file) ≡ word → IsDueOf (words_of file ∷ []) done acts due → Has_status is.LogRefused → Bad
    bad_by_word (Some name) u m h = absurd (cc (sym (status_of due (halt.UnknownName name) (at_word name u m)) ∙ h))
    bad_by_word None u m h = inr (u, table_never_whole d w file acts due (past_words u m) h)

    bad_by_kind : (kind : Option LogKind) → kind_of file ≡ kind → IsDueOf (table_phases d w file) done acts due → Has_status is.LogRefused → Bad
    bad_by_kind None e m h = inr (ap (unknown_word d w) e, no_whole e)
    bad_by_kind (Some kind) e m h = bad_by_word (unknown_word d w (kind_of file)) refl (past_head kind e m) h

    table_by_size : (large : Bool) → nat_lt log_limit (length file) ≡ large → Table_due (Some file) → Has_status is.LogRefused → Bad
    table_by_size true e m h = inl (is_large (length file) e)
    table_by_size false e m h = bad_by_kind (kind_of file) refl (past_file e m) h

    -- and the other way round
    refused_by_kind : (kind : Option LogKind) → kind_of file ≡ kind → unknown_word d w (kind_of file) ≡ None → (IsWholeLog file → ⊥) → IsDueOf (table_phases d w file) done acts due → Has_status is.LogRefused
    refused_by_kind None e u n m = status_of due (halt.LogRefused 0) (at_head e m)
    refused_by_kind (Some kind) e u n m = table_refused d w file acts due (past_words u (past_head kind e m)) n

    refused_by_size : (large : Bool) → nat_lt log_limit (length file) ≡ large → Bad → Table_due (Some file) → Has_status is.LogRefused
    refused_by_size true e b m = status_of due (halt.LogRefused log_limit) (at_large e m)
    refused_by_size false e (inl l) m = absurd (no_large (length file) l e)
    refused_by_size false e (inr b) m = refused_by_kind (kind_of file) refl b.0 b.1 (past_file e m)

    -- ---- an unknown name

    abbrev Unknown : Type 0
    Unknown = (length file ≤ log_limit) × (name : List ℕ) × (unknown_word d w (kind_of file) ≡ Some name)

    named_by_word : (word : Option (List ℕ)) → unknown_word d w (kind_of file) ≡ word → length file ≤ log_limit → IsDueOf (words_of file ∷ []) done acts due → Has_status is.UnknownName → Unknown
    named_by_word (Some name) u l m h = (l, name, u)
    named_by_word None u l m h = absurd (table_status is.UnknownName name_is_other (λ k. absurd (cc k)) d w file acts due (past_words u m) h)

    named_by_kind : (kind : Option LogKind) → kind_of file ≡ kind → length file ≤ log_limit → IsDueOf (table_phases d w file) done acts due → Has_status is.UnknownName → Unknown
    named_by_kind None e l m h = absurd (cc (sym (status_of due (halt.LogRefused 0) (at_head e m)) ∙ h))
    named_by_kind (Some kind) e l m h = named_by_word (unknown_word d w (kind_of file)) refl l (past_head kind e m) h

    named_by_size : (large : Bool) → nat_lt log_limit (length file) ≡ large → Table_due (Some file) → Has_status is.UnknownName → Unknown
    named_by_size true e m h = absurd (cc (sym (status_of due (halt.LogRefused log_limit) (at_large e m)) ∙ h))
    named_by_size false e m h = named_by_kind (kind_of file) refl (is_small (length file) e) (past_file e m) h

    -- and the other way round
    unknown_by_kind : (kind : Option LogKind) (name : List ℕ) → kind_of file ≡ kind → unknown_word d w (kind_of file) ≡ Some name → IsDueOf (table_phases d w file) done acts due → Has_status is.UnknownName
    unknown_by_kind None name e u m = let never : None ≡ Some name = sym (ap (unknown_word d w) e) ∙ u in absurd (cc never)
    unknown_by_kind (Some kind) name e u m = status_of due (halt.UnknownName name) (at_word name u (past_head kind e m))

    unknown_by_size : (large : Bool) → nat_lt log_limit (length file) ≡ large → Unknown → Table_due (Some file) → Has_status is.UnknownName
    unknown_by_size true e k m = absurd (no_small (length file) k.0 e)
    unknown_by_size false e k m = unknown_by_kind (kind_of file) k.1 refl k.2 (past_file e m)

  -- by what the file is
  pub table_bad : (f : Option (List ℕ)) → files log ≡ f → Table_due f → Has_status is.LogRefused → IsBadTable files (Some (Extract definitions log w))
  table_bad None e m h = absurd (cc (sym (status_of due (halt.Absent log) (step_some (read_phase None) (table_phases d w []) (IsExtract d w []) acts due (halt.Absent log) refl m)) ∙ h))
  table_bad (Some file) e m h = record {
    definitions = definitions;
    log = log;
    wanted = w;
    asked_is = refl;
    taken = taken;
    file = file;
    file_is = e;
    bad = table_by_size file e (nat_lt log_limit (length file)) refl m h;
  }

  pub table_named : (f : Option (List ℕ)) → files log ≡ f → Table_due f → Has_status is.UnknownName → IsUnknownName files (Some (Extract definitions log w))
  table_named None e m h = absurd (cc (sym (status_of due (halt.Absent log) (step_some (read_phase None) (table_phases d w []) (IsExtract d w []) acts due (halt.Absent log) refl m)) ∙ h))
  table_named (Some file) e m h =
      let k = named_by_size file e (nat_lt log_limit (length file)) refl m h in
      record { definitions = definitions; log = log; wanted = w; asked_is = refl; taken = taken; file = file; file_is = e; small = k.0; name = k.1; unknown = k.2 }

  pub table_refused_so : (file : List ℕ) (e : files log ≡ Some file) → Bad file e → IsDueOf (extract_phases files definitions log w) (IsDone files (Extract definitions log w)) acts due → Has_status is.LogRefused
  table_refused_so file e b m = refused_by_size file e (nat_lt log_limit (length file)) refl b (subst Table_due e (past_definitions m))

  pub table_unknown_so : (file : List ℕ) (e : files log ≡ Some file) → Unknown file e → IsDueOf (extract_phases files definitions log w) (IsDone files (Extract definitions log w)) acts due → Has_status is.UnknownName
  table_unknown_so file e k m = unknown_by_size file e (nat_lt log_limit (length file)) refl k (subst Table_due e (past_definitions m))

-- by whether the definitions are taken
module _ (s : Status) (other : IsOther s) (files : List ℕ → Option (List ℕ)) (definitions log : List ℕ) (w : WantedData) (acts : List Act) (due : Result (Unit {0}) Halt) where
  taken_by : (first : Option Halt) → (definitions_phase files definitions).halts ≡ first → Other s other first → IsDueOf (extract_phases files definitions log w) (IsDone files (Extract definitions log w)) acts due → Has s other due → (definitions_phase files definitions).halts ≡ None
  taken_by None e o m h = e
  taken_by (Some f) e o m h =
      absurd (o (sym (status_of due f (step_some (definitions_phase files definitions) (columns_phase files log ∷ table_phases (definitions_asked files definitions) w (bytes_of (files log))) (IsDone files (Extract definitions log w)) acts due f e m)) ∙ h))

  pub are_taken : IsDueOf (extract_phases files definitions log w) (IsDone files (Extract definitions log w)) acts due → Has s other due → (definitions_phase files definitions).halts ≡ None
  are_taken m h = taken_by (definitions_phase files definitions).halts refl (of_file s other Configuration definitions definitions_read (files definitions)) m h

-- the words of columns are these alone
pub record SameAsked (a b l m : List ℕ) (v w : WantedData) : Type 0 where
  pub definitions : a ≡ b
  pub log : l ≡ m
  pub wanted : v ≡ w

pub same_asked : (a b l m : List ℕ) (v w : WantedData) → Some (Extract a l v) ≡ Some (Extract b m w) → SameAsked a b l m v w
same_asked a b l m v w e = record { definitions = cc e; log = cc e; wanted = cc e }
