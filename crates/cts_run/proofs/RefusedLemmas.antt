-- Where a log is refused, and where a word names nothing.
use Rattle.std.proofs.Common.{◌≡◌, ◌≢◌, ℕ, ◌<◌, List, [], ◌∷◌, length, Option, Some, None, option_map, Result, Ok, Err, refl, sym, ◌∙◌, ap, subst, ◌⊎◌, inl, inr}
use Rattle.std.specs.Prelude.{◌↔◌}
use Rattle.cts_def.specs.Sites.{SiteData}
use Rattle.cts_def.specs.declared.proto_spec.Kind.{Kind}
use Rattle.cts_log.specs.Files.{kind_of}
use Rattle.cts_proto.specs.Meaning.{Meaning}
use Rattle.cts_run.specs.Acts.{Act}
use Rattle.cts_run.specs.Command.{IsDone, IsDueOf, Outcome, outcome_of, phases}
use Rattle.cts_run.specs.Demo.{definitions_name, demo_files, demo_site, site_name}
use Rattle.cts_run.specs.Dump.{AreDumped, head_after}
use Rattle.cts_run.specs.Extract.{unknown_word}
use Rattle.cts_run.specs.Laws.{IsBadPlay, IsBadTable, IsRefused, IsUnknownName, IsWholeLog, RefusedExactly, UnknownExactly}
use Rattle.cts_run.specs.Load.{bytes_of, definitions_asked, definitions_phase, definitions_read, digest_asked, events_asked, site_asked, site_phase, site_read}
use Rattle.cts_run.specs.Load.Files.{log_limit}
use Rattle.cts_run.specs.Phases.{first_halt}
use Rattle.cts_run.specs.Start.{shelf_phase, short_halt, short_kind}
use Rattle.cts_run.specs.Wanted.{WantedData}
use Rattle.cts_run.specs.declared.halt.Halt.{Halt}
use Rattle.cts_run.specs.declared.halt.Halt.TheVariants as halt
use Rattle.cts_run.specs.declared.halt.file_kind.FileKind.TheVariants.{Configuration}
use Rattle.cts_run.specs.declared.halt.status.Status.{Status}
use Rattle.cts_run.specs.declared.halt.status.Status.TheVariants as is
use Rattle.cts_run.specs.declared.words.Command.TheVariants.{Check, Replay, Rehearse, Dump, Play, Extract, Hub}
use Rattle.cts_run.proofs.LawLemmas.{FileEnds, dumps_refused, file_ends, never_going, status_by}
use Rattle.cts_run.proofs.HubLawLemmas.{hub_other}
use Rattle.cts_run.proofs.PlayLawLemmas.{SamePlay, bad_of, bad_refused, play_bad, play_other, same_play}
use Rattle.cts_run.proofs.StatusLemmas.{Has, IsOther, Other, has_status, log_is_other, name_is_other, of_check, of_file, of_phases, of_rehearsal, of_replay, of_script, other_or, status_alone}
use Rattle.cts_run.proofs.TableLawLemmas.{SameAsked, are_taken, past_definitions, same_asked, table_bad, table_named, table_refused_so, table_unknown_so}

-- ---- a log that is refused

-- a dump's or that of columns
by_side : {A B C : Type 0} → (B → A) → (C → ⊥) → B ⊎ C → A
by_side back never (inl b) = back b
by_side back never (inr c) = absurd (never c)

either : {A B C : Type 0} → A ↔ B → (C → ⊥) → A ↔ (B ⊎ C)
either e never = (λ a. inl (e.0 a), λ s. by_side e.1 never s)

neither : {A B : Type 0} → (A → ⊥) → (B → ⊥) → A ⊎ B → ⊥
neither a b (inl x) = a x
neither a b (inr y) = b y

pub refused_exactly : RefusedExactly
refused_exactly stock files None o h = either (dumps_refused stock files None o h) (neither (λ b. absurd (cc (b.asked_is))) (λ b. absurd (cc (b.asked_is))))
refused_exactly stock files (Some (Check definitions site)) o h = either (dumps_refused stock files (Some (Check definitions site)) o h) (neither (λ b. absurd (cc (b.asked_is))) (λ b. absurd (cc (b.asked_is))))
refused_exactly stock files (Some (Replay definitions site script)) o h = either (dumps_refused stock files (Some (Replay definitions site script)) o h) (neither (λ b. absurd (cc (b.asked_is))) (λ b. absurd (cc (b.asked_is))))
refused_exactly stock files (Some (Rehearse n)) o h = either (dumps_refused stock files (Some (Rehearse n)) o h) (neither (λ b. absurd (cc (b.asked_is))) (λ b. absurd (cc (b.asked_is))))
refused_exactly stock files (Some (Dump log)) o h = either (dumps_refused stock files (Some (Dump log)) o h) (neither (λ b. absurd (cc (b.asked_is))) (λ b. absurd (cc (b.asked_is))))
refused_exactly stock files (Some (Hub definitions site script below tie)) o h = either (dumps_refused stock files (Some (Hub definitions site script below tie)) o h) (neither (λ b. absurd (cc (b.asked_is))) (λ b. absurd (cc (b.asked_is))))
refused_exactly stock files (Some (Extract definitions log w)) o h = (
  λ e. inr (inl (refused_table (has_status is.LogRefused log_is_other h.acts h.due o h.outcome e))),
  λ b. by_bad b,
)
  where
    refused_table : Has is.LogRefused log_is_other h.due → IsBadTable files (Some (Extract definitions log w))
    refused_table k =
        let taken = are_taken is.LogRefused log_is_other files definitions log w h.acts h.due h.is k in
        table_bad files definitions log w h.acts h.due taken (files log) refl (past_definitions files definitions log w h.acts h.due taken h.is) k

    of_words : (b : IsBadTable files (Some (Extract definitions log w))) → SameAsked definitions b.definitions log b.log w b.wanted → o.status ≡ is.LogRefused
    of_words b k =
        let taken = subst (λ (n : List ℕ). (definitions_phase files n).halts ≡ None) (sym k.definitions) b.taken in
        let there = ap files k.log ∙ b.file_is in
        let bad = subst (λ (n : List ℕ). (log_limit < length b.file) ⊎ ((unknown_word (definitions_asked files n) w (kind_of b.file) ≡ None) × (IsWholeLog b.file → ⊥))) (sym k.definitions)
        (subst (λ (v : WantedData). (log_limit < length b.file) ⊎ ((unknown_word (definitions_asked files b.definitions) v (kind_of b.file) ≡ None) × (IsWholeLog b.file → ⊥))) (sym k.wanted) b.bad) in
        ap (λ (t : Outcome). t.status) h.outcome ∙ (status_alone is.LogRefused log_is_other h.acts h.due ∙ table_refused_so files definitions log w h.acts h.due taken b.file there bad h.is)

    by_bad : IsRefused stock files (Some (Extract definitions log w)) → o.status ≡ is.LogRefused
    by_bad (inl b) = absurd (cc (b.asked_is))
    by_bad (inr (inl b)) = of_words b (same_asked definitions b.definitions log b.log w b.wanted b.asked_is)
    by_bad (inr (inr b)) = absurd (cc (b.asked_is))
refused_exactly stock files (Some (Play definitions site log)) o h = (
  λ e. inr (inr (play_bad stock files definitions site log h.acts h.due h.is (has_status is.LogRefused log_is_other h.acts h.due o h.outcome e))),
  λ b. by_bad b,
)
  where
    of_words : (b : IsBadPlay stock files (Some (Play definitions site log))) → SamePlay definitions b.definitions site b.site log b.log → o.status ≡ is.LogRefused
    of_words b k = ap (λ (t : Outcome). t.status) h.outcome ∙ (status_alone is.LogRefused log_is_other h.acts h.due ∙ bad_refused stock files definitions site log h.acts h.due (bad_of stock files definitions site log h.acts h.due b k) h.is)

    by_bad : IsRefused stock files (Some (Play definitions site log)) → o.status ≡ is.LogRefused
    by_bad (inl b) = absurd (cc (b.asked_is))
    by_bad (inr (inl b)) = absurd (cc (b.asked_is))
    by_bad (inr (inr b)) = of_words b (same_play definitions b.definitions site b.site log b.log b.asked_is)

-- ---- a word that names nothing

-- a dump has no word that names nothing
no_name_file : (files : List ℕ → Option (List ℕ)) (head log : List ℕ) (due : Result (Unit {0}) Halt) → FileEnds files head log due → (outcome_of [] due).status ≢ is.UnknownName
no_name_file files head log due (inl a) = λ e. absurd (cc (status_by is.UnknownName due (Err (halt.Absent log)) a.1 e))
no_name_file files head log due (inr (inl a)) = λ e. absurd (cc (status_by is.UnknownName due (Err (halt.LogRefused a.1.0)) a.1.1 e))
no_name_file files head log due (inr (inr a)) = λ e. absurd (cc (status_by is.UnknownName due (Ok tt) a.1 e))

no_name_dumped : (files : List ℕ → Option (List ℕ)) (head : List ℕ) (logs : List (List ℕ)) (acts : List Act) (due : Result (Unit {0}) Halt) → AreDumped files head logs acts due → (outcome_of [] due).status ≡ is.UnknownName → ⊥
no_name_dumped files head [] acts due m e = absurd (cc (status_by is.UnknownName due (Ok tt) m.1 e))
no_name_dumped files head (log ∷ logs) acts due m e =
    let after = head_after head (bytes_of (files log)) in
    never_going is.UnknownName m.1 (AreDumped files after logs) m.0 acts due (λ more k. no_name_dumped files after logs more due k e) (no_name_file files head log m.1 (file_ends files head log m.0 m.1 m.2)) m.3 e

module _ (s : Status) (other : IsOther s) (shelf_other : is.ShelfEmpty ≢ s) where
  no_shelf_short : (stock : List Meaning) (site : SiteData) (kind : Option Kind) → Other s other (option_map (short_halt stock site) kind)
  no_shelf_short stock site None = tt
  no_shelf_short stock site (Some kind) = shelf_other

  pub replay_other : (stock : List Meaning) (files : List ℕ → Option (List ℕ)) (definitions site script : List ℕ) (acts : List Act) (due : Result (Unit {0}) Halt)
      → IsDueOf (phases stock files (Replay definitions site script)) (IsDone files (Replay definitions site script)) acts due → Has s other due → ⊥
  replay_other stock files definitions site script acts due m h =
      let y = site_asked files definitions site in
      of_phases s other (first_halt (phases stock files (Replay definitions site script))) (IsDone files (Replay definitions site script) acts due) acts due
      (other_or s other (definitions_phase files definitions).halts _ (of_file s other Configuration definitions definitions_read (files definitions))
      (other_or s other (site_phase files (definitions_asked files definitions) site).halts _ (of_file s other Configuration site (site_read (definitions_asked files definitions)) (files site))
      (other_or s other (shelf_phase stock y).halts _ (no_shelf_short stock y (short_kind stock y)) (of_script s other files definitions site y script))))
      (λ d e. of_replay s other (digest_asked files definitions) y script (events_asked files y script) acts due d e) m h

  pub rehearsal_other : (stock : List Meaning) (files : List ℕ → Option (List ℕ)) (n : ℕ) (acts : List Act) (due : Result (Unit {0}) Halt)
      → IsDueOf (phases stock files (Rehearse n)) (IsDone files (Rehearse n)) acts due → Has s other due → ⊥
  rehearsal_other stock files n acts due m h =
      of_phases s other (first_halt (phases stock files (Rehearse n))) (IsDone files (Rehearse n) acts due) acts due
      (other_or s other (definitions_phase demo_files definitions_name).halts _ (of_file s other Configuration definitions_name definitions_read (demo_files definitions_name))
      (other_or s other (site_phase demo_files (definitions_asked demo_files definitions_name) site_name).halts _ (of_file s other Configuration site_name (site_read (definitions_asked demo_files definitions_name)) (demo_files site_name))
      (other_or s other (shelf_phase stock demo_site).halts _ (no_shelf_short stock demo_site (short_kind stock demo_site)) tt)))
      (λ d e. of_rehearsal s other demo_site n acts due d e) m h

pub unknown_exactly : UnknownExactly
unknown_exactly stock files None o h = (λ e. absurd (cc (sym (ap (λ (t : Outcome). t.status) h) ∙ e)), λ b. absurd (cc (b.asked_is)))
unknown_exactly stock files (Some (Check definitions site)) o h = (
  λ e. absurd (of_check is.UnknownName name_is_other files definitions site h.acts h.due h.is (has_status is.UnknownName name_is_other h.acts h.due o h.outcome e)),
  λ b. absurd (cc (b.asked_is)),
)
unknown_exactly stock files (Some (Replay definitions site script)) o h = (
  λ e. absurd (replay_other is.UnknownName name_is_other (λ k. absurd (cc k)) stock files definitions site script h.acts h.due h.is (has_status is.UnknownName name_is_other h.acts h.due o h.outcome e)),
  λ b. absurd (cc (b.asked_is)),
)
unknown_exactly stock files (Some (Rehearse n)) o h = (
  λ e. absurd (rehearsal_other is.UnknownName name_is_other (λ k. absurd (cc k)) stock files n h.acts h.due h.is (has_status is.UnknownName name_is_other h.acts h.due o h.outcome e)),
  λ b. absurd (cc (b.asked_is)),
)
unknown_exactly stock files (Some (Dump log)) o h = (
  λ e. absurd (no_name_dumped files [] log h.acts h.due h.is (has_status is.UnknownName name_is_other h.acts h.due o h.outcome e)),
  λ b. absurd (cc (b.asked_is)),
)
unknown_exactly stock files (Some (Play definitions site log)) o h = (
  λ e. absurd (play_other is.UnknownName name_is_other (λ k. absurd (cc k)) (λ k. absurd (cc k)) stock files definitions site log h.acts h.due h.is (has_status is.UnknownName name_is_other h.acts h.due o h.outcome e)),
  λ b. absurd (cc (b.asked_is)),
)
unknown_exactly stock files (Some (Hub definitions site script below tie)) o h = (
  λ e. absurd (hub_other stock files definitions site script below tie is.UnknownName name_is_other (λ k. absurd (cc k)) (λ k. absurd (cc k)) (λ k. absurd (cc k)) h.acts h.due h.is (has_status is.UnknownName name_is_other h.acts h.due o h.outcome e)),
  λ b. absurd (cc (b.asked_is)),
)
unknown_exactly stock files (Some (Extract definitions log w)) o h = (
  λ e. unknown_table (has_status is.UnknownName name_is_other h.acts h.due o h.outcome e),
  λ b. of_words b (same_asked definitions b.definitions log b.log w b.wanted b.asked_is),
)
  where
    unknown_table : Has is.UnknownName name_is_other h.due → IsUnknownName files (Some (Extract definitions log w))
    unknown_table k =
        let taken = are_taken is.UnknownName name_is_other files definitions log w h.acts h.due h.is k in
        table_named files definitions log w h.acts h.due taken (files log) refl (past_definitions files definitions log w h.acts h.due taken h.is) k

    of_words : (b : IsUnknownName files (Some (Extract definitions log w))) → SameAsked definitions b.definitions log b.log w b.wanted → o.status ≡ is.UnknownName
    of_words b k =
        let taken = subst (λ (n : List ℕ). (definitions_phase files n).halts ≡ None) (sym k.definitions) b.taken in
        let there = ap files k.log ∙ b.file_is in
        let unknown = subst (λ (n : List ℕ). unknown_word (definitions_asked files n) w (kind_of b.file) ≡ Some b.name) (sym k.definitions)
        (subst (λ (v : WantedData). unknown_word (definitions_asked files b.definitions) v (kind_of b.file) ≡ Some b.name) (sym k.wanted) b.unknown) in
        ap (λ (t : Outcome). t.status) h.outcome ∙ (status_alone is.UnknownName name_is_other h.acts h.due ∙ table_unknown_so files definitions log w h.acts h.due taken b.file there (b.small, b.name, unknown) h.is)
