-- Laws of playback: which statuses come where.
use Rattle.std.proofs.Common.{◌≡◌, ◌≢◌, ℕ, ◌<◌, Bool, true, false, nat_eq, List, [], ◌∷◌, length, Option, Some, None, option_map, MatchOption, Result, Err, refl, sym, ◌∙◌, ap, subst, ◌⊎◌, inl, inr}
use Rattle.std.specs.Prelude.{nat_lt}
use Rattle.std.specs.Option.{option_or}
use Rattle.cts_core.specs.Runs.{Did, Ending, Finished, NotEnabled, HistoryFull}
use Rattle.cts_def.specs.Sites.{SiteData}
use Rattle.cts_def.specs.declared.proto_spec.Kind.{Kind}
use Rattle.cts_log.proofs.ReadOnce.{logs_are_read_once}
use Rattle.cts_log.specs.Files.{kind_of}
use Rattle.cts_log.specs.Reading.{IsLogRead}
use Rattle.cts_log.specs.declared.kind.LogKind.{LogKind}
use Rattle.cts_log.specs.declared.kind.LogKind.TheVariants.{Cmd, Tlm}
use Rattle.cts_play.specs.Played.{played}
use Rattle.cts_proto.specs.Meaning.{Meaning}
use Rattle.cts_run.specs.Acts.{Act}
use Rattle.cts_run.specs.Command.{IsDueOf, outcome_of}
use Rattle.cts_run.specs.Dump.{dump_answer}
use Rattle.cts_run.specs.Extract.{columns_phase}
use Rattle.cts_run.specs.Laws.{FillsHistory, IsBadPlay, IsWholePackets}
use Rattle.cts_run.specs.Load.{bytes_of, definitions_asked, definitions_phase, definitions_read, site_asked, site_phase, site_phases, site_read}
use Rattle.cts_run.specs.Load.Files.{log_limit, within}
use Rattle.cts_run.specs.Phases.{Phase, first_halt, reading}
use Rattle.cts_run.specs.Play.{IsPlay, IsPlayed, log_phases, packets_halt, packets_phase, play_answer, play_phases, play_phases_of}
use Rattle.cts_run.specs.Start.{shelf_phase, short_halt, short_kind}
use Rattle.cts_run.specs.declared.halt.Halt.{Halt}
use Rattle.cts_run.specs.declared.halt.Halt.TheVariants as halt
use Rattle.cts_run.specs.declared.halt.file_kind.FileKind.TheVariants.{Configuration}
use Rattle.cts_run.specs.declared.halt.status.Status.{Status}
use Rattle.cts_run.specs.declared.halt.status.Status.TheVariants as is
use Rattle.cts_run.specs.declared.words.Command.TheVariants.{Play}
use Rattle.cts_run.proofs.PhaseLemmas.{first_front, first_past}
use Rattle.cts_run.proofs.PlayedLemmas.{no_packets_no_read, one_play}
use Rattle.cts_run.proofs.StatusLemmas.{Has, IsOther, Other, log_is_other, of_file, of_phases, of_site, other_or}
use Rattle.cts_run.proofs.TableLawLemmas.{at_end, by_place, columns_phase_other, ends_other, is_large, large_halts, no_large, small_halts, status_of, step_none, step_some}

-- ---- statuses that a playback does not have

module _ (s : Status) (other : IsOther s) (log_other : is.LogRefused ≢ s) where
  packets_other : (k : Option LogKind) → Other s other (packets_halt k)
  packets_other None = log_other
  packets_other (Some Tlm) = tt
  packets_other (Some Cmd) = log_other

  answer_other : (place n : ℕ) (dids : List Did) (ending : Ending) → Has s other (play_answer (dump_answer place n) dids ending) → ⊥
  answer_other place n dids Finished h = ends_other s other log_other place n (nat_eq place n) refl h
  answer_other place n dids NotEnabled h = ends_other s other log_other place n (nat_eq place n) refl h
  answer_other place n dids HistoryFull h = other.history_full h

  play_status : (site : SiteData) (file : List ℕ) (acts : List Act) (due : Result (Unit {0}) Halt) → IsPlay site file acts due → Has s other due → ⊥
  play_status site file acts due (inl p) h = answer_other p.place (length file) p.dids p.ending (subst (Has s other) p.due_is h)
  play_status site file acts due (inr p) h = log_other (subst (Has s other) p.refused h)

  log_phases_other : (files : List ℕ → Option (List ℕ)) (log : List ℕ) → Other s other (first_halt (log_phases files log))
  log_phases_other files log =
      other_or s other (columns_phase files log).halts (first_halt (packets_phase (bytes_of (files log)) ∷ [])) (columns_phase_other s other log_other log (files log))
      (other_or s other (packets_halt (kind_of (bytes_of (files log)))) None (packets_other (kind_of (bytes_of (files log)))) tt)

  -- after the shelf
  pub play_after : (files : List ℕ → Option (List ℕ)) (site : SiteData) (log : List ℕ) (acts : List Act) (due : Result (Unit {0}) Halt)
      → IsDueOf (log_phases files log) (IsPlay site (bytes_of (files log))) acts due → Has s other due → ⊥
  play_after files site log acts due m h =
      of_phases s other (first_halt (log_phases files log)) (IsPlay site (bytes_of (files log)) acts due) acts due (log_phases_other files log) (λ d e. play_status site (bytes_of (files log)) acts due d e) m h

  module _ (shelf_other : is.ShelfEmpty ≢ s) where
    short_other : (stock : List Meaning) (site : SiteData) (kind : Option Kind) → Other s other (option_map (short_halt stock site) kind)
    short_other stock site None = tt
    short_other stock site (Some kind) = shelf_other

    pub play_other : (stock : List Meaning) (files : List ℕ → Option (List ℕ)) (definitions site log : List ℕ) (acts : List Act) (due : Result (Unit {0}) Halt)
        → IsDueOf (play_phases stock files definitions site log) (IsPlay (site_asked files definitions site) (bytes_of (files log))) acts due → Has s other due → ⊥
    play_other stock files definitions site log acts due m h =
        let y = site_asked files definitions site in
        of_phases s other (first_halt (play_phases stock files definitions site log)) (IsPlay y (bytes_of (files log)) acts due) acts due
        (other_or s other (definitions_phase files definitions).halts _ (of_file s other Configuration definitions definitions_read (files definitions))
        (other_or s other (site_phase files (definitions_asked files definitions) site).halts _ (of_file s other Configuration site (site_read (definitions_asked files definitions)) (files site))
        (other_or s other (shelf_phase stock (played 2 y)).halts _ (short_other stock (played 2 y) (short_kind stock (played 2 y))) (log_phases_other files log))))
        (λ d e. play_status y (bytes_of (files log)) acts due d e) m h

-- ---- where the log is refused

full_status : (dids : List Did) (ending : Ending) (ended : Result (Unit {0}) Halt) → ending ≡ HistoryFull → (outcome_of [] (play_answer ended dids ending)).status ≡ is.HistoryFull
full_status dids ending ended e = ap (λ (x : Ending). (outcome_of [] (play_answer ended dids x)).status) e

whole_never : (place n : ℕ) (dids : List Did) (ending : Ending) → place ≡ n → (outcome_of [] (play_answer (dump_answer place n) dids ending)).status ≢ is.LogRefused
whole_never place n dids Finished e = at_end place n e
whole_never place n dids NotEnabled e = at_end place n e
whole_never place n dids HistoryFull e = λ k. absurd (cc k)

module _ (site : SiteData) (file : List ℕ) where
  -- it is no whole log of packets, and does not get the history full
  abbrev pub Bad : Type 0
  Bad = (IsWholePackets file → ⊥) × (FillsHistory site file → ⊥)

  module _ (acts : List Act) (due : Result (Unit {0}) Halt) where
    abbrev Refused : Type 0
    Refused = (outcome_of [] due).status ≡ is.LogRefused

    never_whole : IsPlay site file acts due → Refused → IsWholePackets file → ⊥
    never_whole (inl p) h x =
        let same = logs_are_read_once file Tlm Tlm p.flagged x.0 p.entries x.1 p.place (length file) p.read x.2 in
        whole_never p.place (length file) p.dids p.ending same.3 (subst (λ (d : Result (Unit {0}) Halt). (outcome_of [] d).status ≡ is.LogRefused) p.due_is h)
    never_whole (inr p) h x = no_packets_no_read file x.0 x.1 (length file) p.none x.2

    never_full : IsPlay site file acts due → Refused → FillsHistory site file → ⊥
    never_full d h q =
        let same : due ≡ q.1 = (one_play site file acts q.0 due q.1 d (inl q.2)).1 in
        let full : (outcome_of [] q.1).status ≡ is.HistoryFull =
        ap (λ (r : Result (Unit {0}) Halt). (outcome_of [] r).status) q.2.due_is ∙ full_status q.2.dids q.2.ending (dump_answer q.2.place (length file)) q.3 in
        let never : is.HistoryFull ≡ is.LogRefused = sym full ∙ (ap (λ (r : Result (Unit {0}) Halt). (outcome_of [] r).status) (sym same) ∙ h) in
        cc never

    placed : (p : IsPlayed site file acts due) → Bad → play_answer (dump_answer p.place (length file)) p.dids p.ending ≡ dump_answer p.place (length file) → Refused
    placed p b e =
        ap (λ (r : Result (Unit {0}) Halt). (outcome_of [] r).status) (p.due_is ∙ e)
        ∙ by_place file p.place (nat_eq p.place (length file)) refl (λ k. b.0 (p.flagged, p.entries, subst (λ (n : ℕ). IsLogRead file Tlm p.flagged p.entries n) k p.read))

    refused_by : (p : IsPlayed site file acts due) (ending : Ending) → p.ending ≡ ending → Bad → Refused
    refused_by p HistoryFull e b = absurd (b.1 (acts, due, p, e))
    refused_by p Finished e b = placed p b (ap (λ (x : Ending). play_answer (dump_answer p.place (length file)) p.dids x) e)
    refused_by p NotEnabled e b = placed p b (ap (λ (x : Ending). play_answer (dump_answer p.place (length file)) p.dids x) e)

    play_refused : IsPlay site file acts due → Bad → Refused
    play_refused (inl p) b = refused_by p p.ending refl b
    play_refused (inr p) b = status_of due (halt.LogRefused 0) p.refused

    -- with the head before
    by_head : (k : Option LogKind) → kind_of file ≡ k → MatchOption (option_or (packets_halt k) None) (IsPlay site file acts due) (λ x. (acts ≡ []) × (due ≡ Err x)) → IsPlay site file acts due
    by_head None e m = inr (record { none = ap packets_halt e; nothing = m.0; refused = m.1 })
    by_head (Some Tlm) e m = m
    by_head (Some Cmd) e m = inr (record { none = ap packets_halt e; nothing = m.0; refused = m.1 })

    as_play : IsDueOf (packets_phase file ∷ []) (IsPlay site file) acts due → IsPlay site file acts due
    as_play m = by_head (kind_of file) refl m

module _ (stock : List Meaning) (files : List ℕ → Option (List ℕ)) (definitions site log : List ℕ) (acts : List Act) (due : Result (Unit {0}) Halt) where
  abbrev y : SiteData
  y = site_asked files definitions site

  abbrev Is_refused : Type 0
  Is_refused = (outcome_of [] due).status ≡ is.LogRefused

  abbrev All_due : Type 0
  All_due = IsDueOf (play_phases stock files definitions site log) (IsPlay y (bytes_of (files log))) acts due

  -- what is due after the site was taken, and then after the shelf
  abbrev Shelf_due : Type 0
  Shelf_due = IsDueOf (play_phases_of stock files y log) (IsPlay y (bytes_of (files log))) acts due

  abbrev read_phase : Option (List ℕ) → Phase
  read_phase f = reading log (within log_limit (halt.LogRefused log_limit) (λ b. None)) f

  abbrev Log_due : Option (List ℕ) → Type 0
  Log_due f = IsDueOf (read_phase f ∷ packets_phase (bytes_of f) ∷ []) (IsPlay y (bytes_of f)) acts due

  past_site : first_halt (site_phases files definitions site) ≡ None → All_due → Shelf_due
  past_site e m =
      subst (λ (o : Option Halt). MatchOption o (IsPlay y (bytes_of (files log)) acts due) (λ h. (acts ≡ []) × (due ≡ Err h)))
      (first_past (site_phases files definitions site) (play_phases_of stock files y log) e) m

  at_site : (f : Halt) → first_halt (site_phases files definitions site) ≡ Some f → All_due → due ≡ Err f
  at_site f e m =
      (subst (λ (o : Option Halt). MatchOption o (IsPlay y (bytes_of (files log)) acts due) (λ h. (acts ≡ []) × (due ≡ Err h)))
      (first_front (site_phases files definitions site) (play_phases_of stock files y log) f e) m).1

  -- the definitions and the site are taken
  taken_by : (first : Option Halt) → first_halt (site_phases files definitions site) ≡ first → Other is.LogRefused log_is_other first → All_due → Is_refused → first ≡ None
  taken_by None e o m h = refl
  taken_by (Some f) e o m h = absurd (o (sym (status_of due f (at_site f e m)) ∙ h))

  are_taken : All_due → Is_refused → first_halt (site_phases files definitions site) ≡ None
  are_taken m h = taken_by (first_halt (site_phases files definitions site)) refl (of_site is.LogRefused log_is_other files definitions site) m h

  -- and the shelf has the box
  abbrev shelf : Option Kind → Option Halt
  shelf kind = option_map (short_halt stock (played 2 y)) kind

  enough_by : (kind : Option Kind) → short_kind stock (played 2 y) ≡ kind → Shelf_due → Is_refused → kind ≡ None
  enough_by None e m h = refl
  enough_by (Some kind) e m h =
      let f = short_halt stock (played 2 y) kind in
      let ended : due ≡ Err f = step_some (shelf_phase stock (played 2 y)) (log_phases files log) (IsPlay y (bytes_of (files log))) acts due f (ap shelf e) m in
      absurd (shelf_no_log (sym (status_of due f ended) ∙ h))
    where
      shelf_no_log : is.ShelfEmpty ≡ is.LogRefused → ⊥
      shelf_no_log e = cc e

  past_shelf : short_kind stock (played 2 y) ≡ None → Shelf_due → Log_due (files log)
  past_shelf e m = step_none (shelf_phase stock (played 2 y)) (log_phases files log) (IsPlay y (bytes_of (files log))) acts due (ap shelf e) m

  -- ---- by the size of the file

  past_file : (file : List ℕ) → nat_lt log_limit (length file) ≡ false → Log_due (Some file) → IsPlay y file acts due
  past_file file e m = as_play y file acts due (step_none (read_phase (Some file)) (packets_phase file ∷ []) (IsPlay y file) acts due (small_halts log file e) m)

  abbrev IsBad : List ℕ → Type 0
  IsBad file = (log_limit < length file) ⊎ Bad y file

  bad_by_size : (file : List ℕ) (large : Bool) → nat_lt log_limit (length file) ≡ large → Log_due (Some file) → Is_refused → IsBad file
  bad_by_size file true e m h = inl (is_large (length file) e)
  bad_by_size file false e m h =
      let p = past_file file e m in
      inr (never_whole y file acts due p h, never_full y file acts due p h)

  bad_by_file : (f : Option (List ℕ)) → files log ≡ f → Log_due f → first_halt (site_phases files definitions site) ≡ None → short_kind stock (played 2 y) ≡ None → Is_refused → IsBadPlay stock files (Some (Play definitions site log))
  bad_by_file None e m taken enough h = absurd (cc (sym (status_of due (halt.Absent log) (step_some (read_phase None) (packets_phase [] ∷ []) (IsPlay y []) acts due (halt.Absent log) refl m)) ∙ h))
  bad_by_file (Some file) e m taken enough h = record {
    definitions = definitions;
    site = site;
    log = log;
    asked_is = refl;
    taken = taken;
    enough = enough;
    file = file;
    file_is = e;
    bad = bad_by_size file (nat_lt log_limit (length file)) refl m h;
  }

  pub play_bad : All_due → Is_refused → IsBadPlay stock files (Some (Play definitions site log))
  play_bad m h =
      let taken = are_taken m h in
      let after = past_site taken m in
      let enough = enough_by (short_kind stock (played 2 y)) refl after h in
      bad_by_file (files log) refl (past_shelf enough after) taken enough h

  -- ---- and the other way round

  -- what is wrong with it, said of these words
  pub record IsBadOf : Type 0 where
    pub taken : first_halt (site_phases files definitions site) ≡ None
    pub enough : short_kind stock (played 2 y) ≡ None
    pub file : List ℕ
    pub file_is : files log ≡ Some file
    pub bad : IsBad file

  refused_by_size : (file : List ℕ) (large : Bool) → nat_lt log_limit (length file) ≡ large → IsBad file → Log_due (Some file) → Is_refused
  refused_by_size file true e b m =
      status_of due (halt.LogRefused log_limit) (step_some (read_phase (Some file)) (packets_phase file ∷ []) (IsPlay y file) acts due (halt.LogRefused log_limit) (large_halts log file e) m)
  refused_by_size file false e (inl l) m = absurd (no_large (length file) l e)
  refused_by_size file false e (inr b) m = play_refused y file acts due (past_file file e m) b

  pub bad_refused : IsBadOf → All_due → Is_refused
  bad_refused b m =
      refused_by_size b.file (nat_lt log_limit (length b.file)) refl b.bad (subst Log_due b.file_is (past_shelf b.enough (past_site b.taken m)))

-- the words of a playback are these alone
pub record SamePlay (a b c d l m : List ℕ) : Type 0 where
  pub definitions : a ≡ b
  pub site : c ≡ d
  pub log : l ≡ m

pub same_play : (a b c d l m : List ℕ) → Some (Play a c l) ≡ Some (Play b d m) → SamePlay a b c d l m
same_play a b c d l m e = record { definitions = cc e; site = cc e; log = cc e }

pub bad_of : (stock : List Meaning) (files : List ℕ → Option (List ℕ)) (definitions site log : List ℕ) (acts : List Act) (due : Result (Unit {0}) Halt) (b : IsBadPlay stock files (Some (Play definitions site log)))
    → SamePlay definitions b.definitions site b.site log b.log → IsBadOf stock files definitions site log acts due
bad_of stock files definitions site log acts due b k =
    let taken = subst (λ (n : List ℕ). first_halt (site_phases files n b.site) ≡ None) (sym k.definitions) b.taken in
    let enough = subst (λ (n : List ℕ). short_kind stock (played 2 (site_asked files n b.site)) ≡ None) (sym k.definitions) b.enough in
    let bad = subst (λ (n : List ℕ). (log_limit < length b.file) ⊎ Bad (site_asked files n b.site) b.file) (sym k.definitions) b.bad in
    record {
      taken = subst (λ (n : List ℕ). first_halt (site_phases files definitions n) ≡ None) (sym k.site) taken;
      enough = subst (λ (n : List ℕ). short_kind stock (played 2 (site_asked files definitions n)) ≡ None) (sym k.site) enough;
      file = b.file;
      file_is = ap files k.log ∙ b.file_is;
      bad = subst (λ (n : List ℕ). (log_limit < length b.file) ⊎ Bad (site_asked files definitions n) b.file) (sym k.site) bad;
    }
