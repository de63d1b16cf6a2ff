-- Statuses that the phases of a command do not have, nor what is done after them.
use Rattle.std.proofs.Common.{◌≡◌, ◌≢◌, ℕ, Bool, true, false, List, [], ◌∷◌, length, Option, Some, None, MatchOption, Result, Ok, Err, refl, sym, ◌∙◌, ap, subst}
use Rattle.std.specs.Prelude.{nat_lt}
use Rattle.std.specs.Option.{option_or}
use Rattle.cts_core.specs.Runs.{Did, Ending, Finished, NotEnabled, HistoryFull}
use Rattle.cts_def.specs.Sites.{SiteData}
use Rattle.cts_entry.specs.declared.event.Event.{Event}
use Rattle.cts_words.specs.declared.fault.WordFault.{WordFault}
use Rattle.cts_words.specs.declared.fault.WordFault.TheVariants as words
use Rattle.cts_words.specs.declared.statement.Statement.{Statement}
use Rattle.cts_words.specs.Statements.{said}
use Rattle.cts_run.specs.Acts.{Act}
use Rattle.cts_run.specs.Causes.{words_halt}
use Rattle.cts_run.specs.Command.{IsDone, IsDueOf, Outcome, outcome_of}
use Rattle.cts_run.specs.Endings.{halt_status}
use Rattle.cts_run.specs.Load.{definitions_asked, definitions_phase, definitions_read, script_phase, script_read, site_phase, site_phases, site_read}
use Rattle.cts_run.specs.Load.Files.{file_limit, judge, judge_said, verdict}
use Rattle.cts_run.specs.Phases.{file_halt, first_halt}
use Rattle.cts_run.specs.Rehearsal.{IsRehearsal, rehearsal_answer}
use Rattle.cts_run.specs.Replay.{IsReplay, replay_answer}
use Rattle.cts_run.specs.declared.halt.Halt.{Halt}
use Rattle.cts_run.specs.declared.halt.Halt.TheVariants as halt
use Rattle.cts_run.specs.declared.halt.cause.Cause.{Cause}
use Rattle.cts_run.specs.declared.halt.cause.Cause.TheVariants as cause
use Rattle.cts_run.specs.declared.halt.file_kind.FileKind.{FileKind}
use Rattle.cts_run.specs.declared.halt.file_kind.FileKind.TheVariants.{Configuration, Script}
use Rattle.cts_run.specs.declared.halt.status.Status.{Status}
use Rattle.cts_run.specs.declared.halt.status.Status.TheVariants as is
use Rattle.cts_run.specs.declared.words.Command.TheVariants.{Check}

-- ---- statuses that neither a file of a site or script nor a replay has

pub record IsOther (s : Status) : Type 0 where
  pub ok : is.Ok ≢ s
  pub memory : is.Memory ≢ s
  pub absent : is.Absent ≢ s
  pub config_refused : is.ConfigRefused ≢ s
  pub script_refused : is.ScriptRefused ≢ s
  pub history_full : is.HistoryFull ≢ s

pub shelf_is_other : IsOther is.ShelfEmpty
shelf_is_other = record {
  ok = λ e. absurd (cc);
  memory = λ e. absurd (cc);
  absent = λ e. absurd (cc);
  config_refused = λ e. absurd (cc);
  script_refused = λ e. absurd (cc);
  history_full = λ e. absurd (cc);
}

pub log_is_other : IsOther is.LogRefused
log_is_other = record {
  ok = λ e. absurd (cc);
  memory = λ e. absurd (cc);
  absent = λ e. absurd (cc);
  config_refused = λ e. absurd (cc);
  script_refused = λ e. absurd (cc);
  history_full = λ e. absurd (cc);
}

pub name_is_other : IsOther is.UnknownName
name_is_other = record {
  ok = λ e. absurd (cc);
  memory = λ e. absurd (cc);
  absent = λ e. absurd (cc);
  config_refused = λ e. absurd (cc);
  script_refused = λ e. absurd (cc);
  history_full = λ e. absurd (cc);
}

pub hub_is_other : IsOther is.HubRefused
hub_is_other = record {
  ok = λ e. absurd (cc);
  memory = λ e. absurd (cc);
  absent = λ e. absurd (cc);
  config_refused = λ e. absurd (cc);
  script_refused = λ e. absurd (cc);
  history_full = λ e. absurd (cc);
}

pub usage_is_other : IsOther is.Usage
usage_is_other = record {
  ok = λ e. absurd (cc);
  memory = λ e. absurd (cc);
  absent = λ e. absurd (cc);
  config_refused = λ e. absurd (cc);
  script_refused = λ e. absurd (cc);
  history_full = λ e. absurd (cc);
}

module _ (s : Status) (other : IsOther s) where
  -- a reason to halt that has another status, if there is one
  abbrev pub Other : Option Halt → Type 0
  Other None = Unit {0}
  Other (Some h) = halt_status h ≢ s

  pub other_or : (a b : Option Halt) → Other a → Other b → Other (option_or a b)
  other_or None b h k = k
  other_or (Some x) b h k = h

  refused_other : (name : List ℕ) (kind : FileKind) (line : ℕ) (why : Cause) → Other (Some (halt.Refused name kind line why))
  refused_other name Configuration line why = other.config_refused
  refused_other name Script line why = other.script_refused

  of_words : (kind : FileKind) (name : List ℕ) (fault : WordFault) → Other (Some (words_halt kind name fault))
  of_words Configuration name (words.OpenQuote line) = other.config_refused
  of_words Configuration name (words.DanglingJoin line) = other.config_refused
  of_words Configuration name (words.NotText place) = other.config_refused
  of_words Script name (words.OpenQuote line) = other.script_refused
  of_words Script name (words.DanglingJoin line) = other.script_refused
  of_words Script name (words.NotText place) = other.script_refused
  of_words Configuration name words.Memory = other.memory
  of_words Script name words.Memory = other.memory

  of_verdict : {X : Type 0} (kind : FileKind) (name : List ℕ) (read : Result X (ℕ × Cause)) → Other (verdict kind name read)
  of_verdict kind name (Ok x) = tt
  of_verdict kind name (Err r) = refused_other name kind r.0 r.1

  of_said : {X : Type 0} (kind : FileKind) (name : List ℕ) (reads : List Statement → Result X (ℕ × Cause)) (found : Result (List Statement) WordFault) → Other (judge_said kind name (λ statements. verdict kind name (reads statements)) found)
  of_said kind name reads (Ok statements) = of_verdict kind name (reads statements)
  of_said kind name reads (Err fault) = of_words kind name fault

  of_bytes : {X : Type 0} (kind : FileKind) (name : List ℕ) (reads : List Statement → Result X (ℕ × Cause)) (bytes : List ℕ) (large : Bool) → nat_lt file_limit (length bytes) ≡ large
      → Other (judge kind name (λ statements. verdict kind name (reads statements)) bytes)
  of_bytes kind name reads bytes true e = rw e (refused_other name kind 0 cause.TooLarge)
  of_bytes kind name reads bytes false e = rw e (of_said kind name reads (said bytes))

  pub of_file : {X : Type 0} (kind : FileKind) (name : List ℕ) (reads : List Statement → Result X (ℕ × Cause)) (file : Option (List ℕ)) → Other (file_halt name (judge kind name (λ statements. verdict kind name (reads statements))) file)
  of_file kind name reads None = other.absent
  of_file kind name reads (Some bytes) = of_bytes kind name reads bytes (nat_lt file_limit (length bytes)) refl

  module _ (files : List ℕ → Option (List ℕ)) (definitions site : List ℕ) where
    pub of_site : Other (first_halt (site_phases files definitions site))
    of_site =
        other_or (definitions_phase files definitions).halts (first_halt (site_phase files (definitions_asked files definitions) site ∷ [])) (of_file Configuration definitions definitions_read (files definitions))
        (other_or (site_phase files (definitions_asked files definitions) site).halts None (of_file Configuration site (site_read (definitions_asked files definitions)) (files site)) tt)

    -- after the shelf
    pub of_script : (x : SiteData) (script : List ℕ) → Other (first_halt (script_phase files x script ∷ []))
    of_script x script = other_or (script_phase files x script).halts None (of_file Script script (script_read x) (files script)) tt

  -- a command that ends so has this status
  abbrev pub Has : Result (Unit {0}) Halt → Type 0
  Has due = (outcome_of [] due).status ≡ s

  pub status_alone : (acts : List Act) (due : Result (Unit {0}) Halt) → (outcome_of acts due).status ≡ (outcome_of [] due).status
  status_alone acts (Ok done) = refl
  status_alone acts (Err h) = refl

  pub of_run : (script : List ℕ) (events : List (ℕ × Event)) (dids : List Did) (ending : Ending) → Has (replay_answer script events dids ending) → ⊥
  of_run script events dids Finished h = other.ok h
  of_run script events dids NotEnabled h = other.script_refused h
  of_run script events dids HistoryFull h = other.history_full h

  pub of_replay : (digest : List ℕ) (site : SiteData) (script : List ℕ) (events : List (ℕ × Event)) (acts : List Act) (due : Result (Unit {0}) Halt) → IsReplay digest site script events acts due → Has due → ⊥
  of_replay digest site script events acts due r h = of_run script events r.dids r.ending (subst Has r.due_is h)

  of_rehearsed : (dids : List Did) (ending : Ending) → Has (rehearsal_answer dids ending) → ⊥
  of_rehearsed dids Finished h = other.ok h
  of_rehearsed dids NotEnabled h = other.script_refused h
  of_rehearsed dids HistoryFull h = other.history_full h

  pub of_rehearsal : (site : SiteData) (n : ℕ) (acts : List Act) (due : Result (Unit {0}) Halt) → IsRehearsal site n acts due → Has due → ⊥
  of_rehearsal site n acts due r h = of_rehearsed r.dids r.ending (subst Has r.due_is h)

  -- phases whose reasons all have another status
  pub of_phases : (first : Option Halt) (done : Type 0) (acts : List Act) (due : Result (Unit {0}) Halt) → Other first → (done → Has due → ⊥) → MatchOption first done (λ x. (acts ≡ []) × (due ≡ Err x)) → Has due → ⊥
  of_phases None done acts due k d m h = d m h
  of_phases (Some x) done acts due k d m h = k (subst Has m.1 h)

  pub of_check : (files : List ℕ → Option (List ℕ)) (definitions site : List ℕ) (acts : List Act) (due : Result (Unit {0}) Halt) → IsDueOf (site_phases files definitions site) (IsDone files (Check definitions site)) acts due → Has due → ⊥
  of_check files definitions site acts due m h =
      of_phases (first_halt (site_phases files definitions site)) (IsDone files (Check definitions site) acts due) acts due (of_site files definitions site) (λ d k. other.ok (subst Has d.1 k)) m h

pub has_status : (s : Status) (other : IsOther s) (acts : List Act) (due : Result (Unit {0}) Halt) (o : Outcome) → o ≡ outcome_of acts due → o.status ≡ s → (outcome_of [] due).status ≡ s
has_status s other acts due o e h = sym (status_alone s other acts due) ∙ (sym (ap (λ (t : Outcome). t.status) e) ∙ h)

pub outcome_status : (acts : List Act) (due : Result (Unit {0}) Halt) (h : Halt) (o : Outcome) → o ≡ outcome_of acts due → due ≡ Err h → o.status ≡ halt_status h
outcome_status acts due h o e f = ap (λ (t : Outcome). t.status) e ∙ ap (λ (d : Result (Unit {0}) Halt). (outcome_of acts d).status) f
