-- Which statuses an answer has that the shelf and the files alone decide.
use Rattle.std.proofs.Common.{◌≡◌, ℕ, List, Option, Some, None, IfSome, subst, ◌∙◌, ◌⊎◌, inl, inr}
use Rattle.std.specs.Prelude.{◌↔◌}
use Rattle.cts_proto.specs.Meaning.{Meaning}
use Rattle.cts_run.specs.Acts.{Outside}
use Rattle.cts_run.specs.Command.{Answers, Completes, DoesFor, IsOutcome, Outcome}
use Rattle.cts_run.specs.Due.{AreDue, ComesExactly}
use Rattle.cts_run.specs.Laws.{IsMisused, IsRefused, IsShort, IsUnknownName, IsUntied}
use Rattle.cts_run.specs.declared.halt.status.Status.{Status}
use Rattle.cts_run.specs.declared.halt.status.Status.TheVariants as is
use Rattle.cts_run.specs.declared.words.Command.{Command}
use Rattle.cts_run.proofs.LawLemmas.{short_exactly}
use Rattle.cts_run.proofs.RefusedLemmas.{refused_exactly, unknown_exactly}
use Rattle.cts_run.proofs.UntiedLemmas.{misused_exactly, untied_exactly}

module _ (stock : List Meaning) (files : List ℕ → Option (List ℕ)) (asked : Option Command) (nothing_failed : Type 0) (status : Status) (old new : Outside) where
  -- an outcome has this status exactly where its cause stands, and is the answer's own where that has it
  abbrev Exactly : Status → Type 0 → Type 0
  Exactly due cause = (o : Outcome) → IsOutcome stock files asked o → (o.status ≡ due) ↔ cause

  abbrev Own : Status → Type 0
  Own due = (o : Outcome) → DoesFor stock files asked o due old new → o.status ≡ due

  comes : (due : Status) (cause : Type 0) → Own due → Exactly due cause → Answers stock files asked status old new → (nothing_failed → Completes stock files asked status) → ComesExactly due cause nothing_failed status
  comes due cause own exactly a c = record {
    only = λ e. (exactly a.outcome a.is).0 (own a.outcome (subst (λ (s : Status). DoesFor stock files asked a.outcome s old new) e a.does));
    always = λ n k. by_outcome (c n) k;
  }
    where
      by_status : (o : Outcome) → IsOutcome stock files asked o → cause → (status ≡ o.status) ⊎ (status ≡ is.Memory) → (status ≡ due) ⊎ (status ≡ is.Memory)
      by_status o h k (inl e) = inl (e ∙ (exactly o h).1 k)
      by_status o h k (inr e) = inr e

      by_outcome : Completes stock files asked status → cause → (status ≡ due) ⊎ (status ≡ is.Memory)
      by_outcome k b = by_status k.outcome k.is b k.status_is

  due_in : Answers stock files asked status old new → (nothing_failed → Completes stock files asked status) → AreDue stock files asked nothing_failed status
  due_in a c = record {
    short = comes is.ShelfEmpty (IsShort stock files asked) (λ o d. d.0) (short_exactly stock files asked) a c;
    refused = comes is.LogRefused (IsRefused stock files asked) (λ o d. d.0) (refused_exactly stock files asked) a c;
    unknown = comes is.UnknownName (IsUnknownName files asked) (λ o d. d.0) (unknown_exactly stock files asked) a c;
    untied = comes is.HubRefused (IsUntied files asked) (λ o d. d.0) (untied_exactly stock files asked) a c;
    misused = comes is.Usage (IsMisused files asked) (λ o d. d.0) (misused_exactly stock files asked) a c;
  }

pub due_answer : (stock : List Meaning) (told : Option (List ℕ → Option (List ℕ))) (asked : Option Command) (status : Status) (old new : Outside) (nothing_failed : Type 0)
    → IfSome told (λ all. Answers stock all asked status old new) → (nothing_failed → IfSome told (λ all. Completes stock all asked status)) → IfSome told (λ all. AreDue stock all asked nothing_failed status)
due_answer stock None asked status old new nothing_failed a c = tt
due_answer stock (Some all) asked status old new nothing_failed a c = due_in stock all asked nothing_failed status old new a c
