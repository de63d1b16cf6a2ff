-- What a command answers that puts columns of a log.
use Rattle.std.proofs.Common.{◌≡◌, ℕ, Bool, true, false, List, [], ◌∷◌, length, nat_eq, Option, Some, None, IfSome, MatchOption, Result, Ok, Err, refl, sym, ◌∙◌, ap, subst, arith, inl, inr}
use Rattle.std.proofs.lemmas.Bool.Decides.{nat_tests}
use Rattle.std.specs.Prelude.{is_some, nat_lt, option_map, if◌then◌else◌}
use Rattle.cts_def.specs.Packets.{DefinitionsData}
use Rattle.cts_extract.specs.Columns.{AreAsked, ColumnsData, first_unknown, packet_named}
use Rattle.cts_extract.specs.Words.{texts_of}
use Rattle.cts_log.specs.Files.{kind_of}
use Rattle.cts_log.specs.declared.kind.LogKind.{LogKind}
use Rattle.cts_outside.specs.Seen.{FilesSeen}
use Rattle.cts_proto.specs.Meaning.{Meaning}
use Rattle.cts_run.specs.Acts.{Act, DoesAll, Outside}
use Rattle.cts_run.specs.Command.{IsReadFirst, IsDone, IsDueOf, Performs, PerformsOf}
use Rattle.cts_run.specs.Dump.{dump_answer}
use Rattle.cts_run.specs.Extract.{columns_phase, IsExtract, PutsLines, extract_phases, has_commands, lines_of, table_of, table_phases, unknown_word}
use Rattle.cts_run.specs.Extracting.{PerformsLog, PutsTable}
use Rattle.cts_run.specs.Load.{bytes_of, definitions_asked, definitions_phase, digest_asked}
use Rattle.cts_run.specs.Load.Files.{GivesBytes, log_limit, within}
use Rattle.cts_run.specs.Phases.{FileCounts, IsFound, Phase, TakesAt, asking, file_halt, first_halt}
use Rattle.cts_run.specs.Putting.{SinkCounts, VaultCounts}
use Rattle.cts_run.specs.Wanted.{WantedData}
use Rattle.cts_run.specs.declared.halt.Halt.{Halt}
use Rattle.cts_run.specs.declared.halt.Halt.TheVariants as halt
use Rattle.cts_run.specs.declared.words.Command.TheVariants.{Extract}
use Rattle.cts_run.proofs.ActLemmas.{sink_of, vault_of}
use Rattle.cts_run.proofs.CommandLemmas.{OfNoFile, counts_of, does_of, due_past, goes_so, halts_here, halts_so, performs_past, some_due}
use Rattle.cts_run.proofs.ExtractLemmas.{asked_table, kind_read, some_table}
use Rattle.cts_run.proofs.PhaseLemmas.{here, none_alone}

-- ---- the file

module _ (d : DefinitionsData) (w : WantedData) (file : List ℕ) where
  abbrev done : List Act → Result (Unit {0}) Halt → Type 0
  done = IsExtract d w file

  abbrev phases : List Phase
  phases = table_phases d w file

  halts_by : (k : Option LogKind) → kind_of file ≡ k → first_halt phases ≡ first_halt (asking (if is_some k then None else Some (halt.LogRefused 0)) ∷ asking (option_map halt.UnknownName (unknown_word d w k)) ∷ [])
  halts_by k e = ap (λ (k : Option LogKind). first_halt (asking (if is_some k then None else Some (halt.LogRefused 0)) ∷ asking (option_map halt.UnknownName (unknown_word d w k)) ∷ [])) e

  -- a halt that this phase has
  halted : (h : Halt) (o : Outside) → first_halt phases ≡ Some h → DoesAll [] (Err h) (Err h) o o → PutsTable d w file (Err h) o o
  halted h o e k = record { acts = []; due = Err h; is = halts_so phases done h e; does = k }

  pub no_log : (o : Outside) → kind_of file ≡ None → PutsTable d w file (Err (halt.LogRefused 0)) o o
  no_log o e = halted (halt.LogRefused 0) o (halts_by None e) (refl, refl)

  -- the head is there, and this is what the words say
  by_words : (kind : LogKind) (word : Option (List ℕ)) → kind_of file ≡ Some kind → first_unknown d (has_commands kind) w.target w.packet (texts_of w.items) ≡ word
      → first_halt phases ≡ first_halt (asking (option_map halt.UnknownName word) ∷ [])
  by_words kind word e u = halts_by (Some kind) e ∙ ap (λ (t : Option (List ℕ)). first_halt (asking (option_map halt.UnknownName t) ∷ [])) u

  pub unknown_name : (kind : LogKind) (name : List ℕ) (o : Outside) → kind_of file ≡ Some kind → first_unknown d (has_commands kind) w.target w.packet (texts_of w.items) ≡ Some name
      → PutsTable d w file (Err (halt.UnknownName name)) o o
  unknown_name kind name o e u = halted (halt.UnknownName name) o (by_words kind (Some name) e u) (refl, refl)

  pub wants_columns : (o : Outside) → PutsTable d w file (Err halt.Memory) o o
  wants_columns o =
      let some = some_due phases done (some_table d w file) in
      record { acts = some.0; due = some.1; is = some.2; does = (0, refl) }

  pub puts_columns : (kind : LogKind) (c : ColumnsData) (answer : Result (Unit {0}) Halt) (old new : Outside) (a : AreAsked d (has_commands kind) w.target w.packet (texts_of w.items) w.kind c)
      → kind_of file ≡ Some kind → first_unknown d (has_commands kind) w.target w.packet (texts_of w.items) ≡ None → PutsLines c.kind a.of a.items file answer old new → PutsTable d w file answer old new
  puts_columns kind c answer old new a e u k =
      let of_kind : k.log ≡ kind = some_is k.log kind (sym (kind_read file k.log k.flagged k.entries k.place k.read) ∙ e) in
      let acts : List Act = table_of w k.entries (packet_named d (has_commands k.log) w.target w.packet) in
      let same : lines_of c.kind a.of a.items k.entries ≡ acts =
      asked_table d (has_commands kind) w c k.entries a ∙ ap (λ (t : LogKind). table_of w k.entries (packet_named d (has_commands t) w.target w.packet)) (sym of_kind) in
      record {
        acts = acts;
        due = dump_answer k.place (length file);
        is = goes_so phases done acts (dump_answer k.place (length file)) (by_words kind None e u)
            (inl (record { kind = k.log; flagged = k.flagged; entries = k.entries; place = k.place; read = k.read; acts_are = refl; due_is = refl }));
        does = subst (λ (t : List Act). DoesAll t (dump_answer k.place (length file)) answer old new) same k.does;
      }
    where
      some_is : (x y : LogKind) → Some x ≡ Some y → x ≡ y
      some_is x y s = cc s

  -- no fault of a file comes of it
  answer_of_no_file : (place n : ℕ) (whole : Bool) → nat_eq place n ≡ whole → OfNoFile (dump_answer place n)
  answer_of_no_file place n true e = rw e tt
  answer_of_no_file place n false e = rw e tt

  done_of_no_file : (acts : List Act) (due : Result (Unit {0}) Halt) → IsExtract d w file acts due → OfNoFile due
  done_of_no_file acts due (inl t) = subst OfNoFile (sym t.due_is) (answer_of_no_file t.place (length file) (nat_eq t.place (length file)) refl)
  done_of_no_file acts due (inr t) = subst OfNoFile (sym t.refused) tt

  words_of_no_file : (word : Option (List ℕ)) (acts : List Act) (due : Result (Unit {0}) Halt)
      → MatchOption (first_halt (asking (option_map halt.UnknownName word) ∷ [])) (done acts due) (λ h. (acts ≡ []) × (due ≡ Err h)) → OfNoFile due
  words_of_no_file None acts due m = done_of_no_file acts due m
  words_of_no_file (Some word) acts due m = subst OfNoFile (sym m.1) tt

  due_by_kind : (k : Option LogKind) (acts : List Act) (due : Result (Unit {0}) Halt)
      → MatchOption (first_halt (asking (if is_some k then None else Some (halt.LogRefused 0)) ∷ asking (option_map halt.UnknownName (unknown_word d w k)) ∷ [])) (done acts due) (λ h. (acts ≡ []) × (due ≡ Err h)) → OfNoFile due
  due_by_kind None acts due m = subst OfNoFile (sym m.1) tt
  due_by_kind (Some kind) acts due m = words_of_no_file (first_unknown d (has_commands kind) w.target w.packet (texts_of w.items)) acts due m

  pub table_of_no_file : (acts : List Act) (due : Result (Unit {0}) Halt) → IsDueOf phases done acts due → OfNoFile due
  table_of_no_file acts due m = due_by_kind (kind_of file) acts due m

  pub table_counts : (answer : Result (Unit {0}) Halt) (old new : Outside) (files files' : FilesSeen) → PutsTable d w file answer old new → IsFound files files' → FileCounts answer files files'
  table_counts answer old new files files' p f = counts_of p.acts p.due answer old new files files' (table_of_no_file p.acts p.due p.is) p.does f

  pub table_faults : (answer : Result (Unit {0}) Halt) (old new : Outside) → PutsTable d w file answer old new → SinkCounts answer old.out new.out
  table_faults answer old new p = sink_of p.acts p.due answer old new p.does

  pub table_logs : (answer : Result (Unit {0}) Halt) (old new : Outside) → PutsTable d w file answer old new → VaultCounts answer old.vault new.vault
  table_logs answer old new p = vault_of p.acts p.due answer old new p.does

-- ---- the file of a name

module _ (d : DefinitionsData) (w : WantedData) (log : List ℕ) where
  abbrev Given : (List ℕ → Option (List ℕ)) → Result (List ℕ) Halt → Type 0
  Given all answer = GivesBytes log_limit (halt.LogRefused log_limit) log (all log) answer

  -- the file is not too large
  small_log : (all : List ℕ → Option (List ℕ)) (file : List ℕ) → Given all (Ok file) → (columns_phase all log).halts ≡ None
  small_log all file k =
      let small : nat_lt log_limit (length file) ≡ false = grind (arith, nat_tests, k.1) in
      let judged : within log_limit (halt.LogRefused log_limit) (λ b. None) file ≡ None = rw small refl in
      ap (file_halt log (within log_limit (halt.LogRefused log_limit) (λ b. None))) k.0 ∙ judged

  pub log_performs : (told : Option (List ℕ → Option (List ℕ))) (file : List ℕ) (answer : Result (Unit {0}) Halt) (old new : Outside)
      → IfSome told (λ all. Given all (Ok file)) → PutsTable d w file answer old new → IfSome told (λ all. PerformsLog all d log w answer old new)
  log_performs None file answer old new k p = tt
  log_performs (Some all) file answer old new k p =
      let none = none_alone (columns_phase all log) (small_log all file k) in
      let after = table_phases d w file in
      subst (λ (f : Option (List ℕ)). PerformsOf (columns_phase all log ∷ table_phases d w (bytes_of f)) (IsExtract d w (bytes_of f)) answer old new) (sym k.0)
      (record {
        acts = p.acts;
        due = p.due;
        is = due_past (columns_phase all log ∷ []) after (IsExtract d w file) p.acts p.due none p.is;
        does = does_of (IsReadFirst (columns_phase all log ∷ after)) p.acts p.due answer old new (table_of_no_file d w file p.acts p.due p.is) p.does;
      })

  pub log_fails : (told : Option (List ℕ → Option (List ℕ))) (h : Halt) (o : Outside) → IfSome told (λ all. Given all (Err h)) → IfSome told (λ all. PerformsLog all d log w (Err h) o o)
  log_fails None h o k = tt
  log_fails (Some all) h o k =
      let after = table_phases d w (bytes_of (all log)) in
      halts_here (columns_phase all log ∷ after) (IsExtract d w (bytes_of (all log))) (some_table d w (bytes_of (all log))) h o (here (columns_phase all log) after h (k (λ bytes. None)))

-- ---- definitions, and then the file

module _ (stock : List Meaning) (definitions log : List ℕ) (w : WantedData) where
  abbrev after_definitions : (List ℕ → Option (List ℕ)) → List Phase
  after_definitions all = columns_phase all log ∷ table_phases (definitions_asked all definitions) w (bytes_of (all log))

  pub extract_performs : (told second : Option (List ℕ → Option (List ℕ))) (x : DefinitionsData × List ℕ) (answer : Result (Unit {0}) Halt) (old new : Outside) → second ≡ told
      → IfSome told (λ all. TakesAt (definitions_phase all definitions) (definitions_asked all definitions, digest_asked all definitions) (Ok x))
      → IfSome second (λ all. PerformsLog all x.0 log w answer old new) → IfSome told (λ all. Performs stock all (Extract definitions log w) answer old new)
  extract_performs None second x answer old new same t k = tt
  extract_performs (Some all) second x answer old new same t k =
      let k' = subst (λ (s : Option (List ℕ → Option (List ℕ))). IfSome s (λ all. PerformsLog all x.0 log w answer old new)) same k in
      let k'' = subst (λ (y : DefinitionsData × List ℕ). PerformsLog all y.0 log w answer old new) t.1 k' in
      performs_past (definitions_phase all definitions ∷ []) (after_definitions all) (IsDone all (Extract definitions log w)) answer old new (none_alone (definitions_phase all definitions) t.0) k''

  pub extract_fails : (told : Option (List ℕ → Option (List ℕ))) (h : Halt) (o : Outside)
      → IfSome told (λ all. TakesAt {T = DefinitionsData × List ℕ} (definitions_phase all definitions) (definitions_asked all definitions, digest_asked all definitions) (Err h))
      → IfSome told (λ all. Performs stock all (Extract definitions log w) (Err h) o o)
  extract_fails None h o k = tt
  extract_fails (Some all) h o k =
      halts_here (extract_phases all definitions log w) (IsDone all (Extract definitions log w)) (some_table (definitions_asked all definitions) w (bytes_of (all log))) h o
      (here (definitions_phase all definitions) (after_definitions all) h k)
