-- Where a hub is refused, and where words fit no command.
use Rattle.std.proofs.Common.{◌≡◌, ◌≢◌, ℕ, List, [], ◌∷◌, Option, Some, None, Result, Ok, Err, sym, ◌∙◌, ap, inl, inr}
use Rattle.cts_proto.specs.Meaning.{Meaning}
use Rattle.cts_run.specs.Acts.{Act}
use Rattle.cts_run.specs.Command.{IsOutcome, Outcome, outcome_of}
use Rattle.cts_run.specs.Dump.{AreDumped, head_after}
use Rattle.cts_run.specs.Laws.{MisusedExactly, UntiedExactly}
use Rattle.cts_run.specs.Load.{bytes_of}
use Rattle.cts_run.specs.declared.halt.Halt.{Halt}
use Rattle.cts_run.specs.declared.halt.Halt.TheVariants as halt
use Rattle.cts_run.specs.declared.halt.status.Status.{Status}
use Rattle.cts_run.specs.declared.halt.status.Status.TheVariants as is
use Rattle.cts_run.specs.declared.words.Command.{Command}
use Rattle.cts_run.specs.declared.words.Command.TheVariants.{Check, Replay, Rehearse, Dump, Play, Extract, Hub}
use Rattle.cts_run.proofs.HubLawLemmas.{misnamed_so, misnamed_where, untied_so, untied_where}
use Rattle.cts_run.proofs.LawLemmas.{FileEnds, file_ends, never_going, status_by}
use Rattle.cts_run.proofs.PlayLawLemmas.{play_other}
use Rattle.cts_run.proofs.RefusedLemmas.{rehearsal_other, replay_other}
use Rattle.cts_run.proofs.StatusLemmas.{IsOther, has_status, hub_is_other, of_check, usage_is_other}
use Rattle.cts_run.proofs.TableLawLemmas.{extract_other}

-- a status that no other command has
pub record IsHubs (s : Status) : Type 0 where
  pub other : IsOther s
  pub log : is.LogRefused ≢ s
  pub shelf : is.ShelfEmpty ≢ s
  pub unknown : is.UnknownName ≢ s

abbrev NoHub : Option Command → Type 0
NoHub None = ⊥
NoHub (Some (Hub definitions site script below tie)) = ⊥
NoHub asked = Unit {0}

module _ (s : Status) (k : IsHubs s) where
  no_file : (files : List ℕ → Option (List ℕ)) (head log : List ℕ) (due : Result (Unit {0}) Halt) → FileEnds files head log due → (outcome_of [] due).status ≢ s
  no_file files head log due (inl a) = λ e. k.other.absent (status_by s due (Err (halt.Absent log)) a.1 e)
  no_file files head log due (inr (inl a)) = λ e. k.log (status_by s due (Err (halt.LogRefused a.1.0)) a.1.1 e)
  no_file files head log due (inr (inr a)) = λ e. k.other.ok (status_by s due (Ok tt) a.1 e)

  no_dumped : (files : List ℕ → Option (List ℕ)) (head : List ℕ) (logs : List (List ℕ)) (acts : List Act) (due : Result (Unit {0}) Halt) → AreDumped files head logs acts due → (outcome_of [] due).status ≡ s → ⊥
  no_dumped files head [] acts due m e = k.other.ok (status_by s due (Ok tt) m.1 e)
  no_dumped files head (log ∷ logs) acts due m e =
      let after = head_after head (bytes_of (files log)) in
      never_going s m.1 (AreDumped files after logs) m.0 acts due (λ more x. no_dumped files after logs more due x e) (no_file files head log m.1 (file_ends files head log m.0 m.1 m.2)) m.3 e

  -- no other command has it
  no_other : (stock : List Meaning) (files : List ℕ → Option (List ℕ)) (asked : Option Command) (o : Outcome) → NoHub asked → IsOutcome stock files asked o → o.status ≡ s → ⊥
  no_other stock files None o n h e = n
  no_other stock files (Some (Hub definitions site script below tie)) o n h e = n
  no_other stock files (Some (Check definitions site)) o n h e = of_check s k.other files definitions site h.acts h.due h.is (has_status s k.other h.acts h.due o h.outcome e)
  no_other stock files (Some (Replay definitions site script)) o n h e = replay_other s k.other k.shelf stock files definitions site script h.acts h.due h.is (has_status s k.other h.acts h.due o h.outcome e)
  no_other stock files (Some (Rehearse number)) o n h e = rehearsal_other s k.other k.shelf stock files number h.acts h.due h.is (has_status s k.other h.acts h.due o h.outcome e)
  no_other stock files (Some (Dump logs)) o n h e = no_dumped files [] logs h.acts h.due h.is (has_status s k.other h.acts h.due o h.outcome e)
  no_other stock files (Some (Play definitions site log)) o n h e = play_other s k.other k.log k.shelf stock files definitions site log h.acts h.due h.is (has_status s k.other h.acts h.due o h.outcome e)
  no_other stock files (Some (Extract definitions log w)) o n h e = extract_other s k.other k.log k.unknown files definitions log w h.acts h.due h.is (has_status s k.other h.acts h.due o h.outcome e)

refused_is : IsHubs is.HubRefused
refused_is = record { other = hub_is_other; log = λ e. absurd (cc e); shelf = λ e. absurd (cc e); unknown = λ e. absurd (cc e) }

usage_is : IsHubs is.Usage
usage_is = record { other = usage_is_other; log = λ e. absurd (cc e); shelf = λ e. absurd (cc e); unknown = λ e. absurd (cc e) }

pub untied_exactly : UntiedExactly
untied_exactly stock files None o h = (λ e. absurd (cc (sym (ap (λ (t : Outcome). t.status) h) ∙ e)), λ b. absurd b)
untied_exactly stock files (Some (Check definitions site)) o h = (λ e. absurd (no_other is.HubRefused refused_is stock files (Some (Check definitions site)) o tt h e), λ b. absurd b)
untied_exactly stock files (Some (Replay definitions site script)) o h = (λ e. absurd (no_other is.HubRefused refused_is stock files (Some (Replay definitions site script)) o tt h e), λ b. absurd b)
untied_exactly stock files (Some (Rehearse n)) o h = (λ e. absurd (no_other is.HubRefused refused_is stock files (Some (Rehearse n)) o tt h e), λ b. absurd b)
untied_exactly stock files (Some (Dump logs)) o h = (λ e. absurd (no_other is.HubRefused refused_is stock files (Some (Dump logs)) o tt h e), λ b. absurd b)
untied_exactly stock files (Some (Play definitions site log)) o h = (λ e. absurd (no_other is.HubRefused refused_is stock files (Some (Play definitions site log)) o tt h e), λ b. absurd b)
untied_exactly stock files (Some (Extract definitions log w)) o h = (λ e. absurd (no_other is.HubRefused refused_is stock files (Some (Extract definitions log w)) o tt h e), λ b. absurd b)
untied_exactly stock files (Some (Hub definitions site script below tie)) o h = (
  λ e. untied_where stock files definitions site script below tie h.acts h.due h.is (has_status is.HubRefused hub_is_other h.acts h.due o h.outcome e),
  λ b. untied_so stock files definitions site script below tie h.acts h.due o h.outcome h.is b,
)

pub misused_exactly : MisusedExactly
misused_exactly stock files None o h = (λ e. tt, λ b. ap (λ (t : Outcome). t.status) h)
misused_exactly stock files (Some (Check definitions site)) o h = (λ e. absurd (no_other is.Usage usage_is stock files (Some (Check definitions site)) o tt h e), λ b. absurd b)
misused_exactly stock files (Some (Replay definitions site script)) o h = (λ e. absurd (no_other is.Usage usage_is stock files (Some (Replay definitions site script)) o tt h e), λ b. absurd b)
misused_exactly stock files (Some (Rehearse n)) o h = (λ e. absurd (no_other is.Usage usage_is stock files (Some (Rehearse n)) o tt h e), λ b. absurd b)
misused_exactly stock files (Some (Dump logs)) o h = (λ e. absurd (no_other is.Usage usage_is stock files (Some (Dump logs)) o tt h e), λ b. absurd b)
misused_exactly stock files (Some (Play definitions site log)) o h = (λ e. absurd (no_other is.Usage usage_is stock files (Some (Play definitions site log)) o tt h e), λ b. absurd b)
misused_exactly stock files (Some (Extract definitions log w)) o h = (λ e. absurd (no_other is.Usage usage_is stock files (Some (Extract definitions log w)) o tt h e), λ b. absurd b)
misused_exactly stock files (Some (Hub definitions site script below tie)) o h = (
  λ e. misnamed_where stock files definitions site script below tie h.acts h.due h.is (has_status is.Usage usage_is_other h.acts h.due o h.outcome e),
  λ b. misnamed_so stock files definitions site script below tie h.acts h.due o h.outcome h.is b,
)
