-- Statuses that the shelf and the files alone decide: where each of them comes.
use Rattle.std.specs.Prelude.{◌≡◌, ℕ, List, Option, ◌⊎◌}
use Rattle.cts_outside.specs.Causes.{Steady}
use Rattle.cts_outside.specs.Seen.{FilesSeen, SinkSeen, VaultSeen}
use Rattle.cts_proto.specs.Meaning.{Meaning}
use Rattle.cts_run.specs.Laws.{IsMisused, IsRefused, IsShort, IsUnknownName, IsUntied}
use Rattle.cts_run.specs.declared.halt.status.Status.{Status}
use Rattle.cts_run.specs.declared.halt.status.Status.TheVariants.{HubRefused, LogRefused, Memory, ShelfEmpty, UnknownName, Usage}
use Rattle.cts_run.specs.declared.words.Command.{Command}

-- no read, no put and nothing of the logs failed
abbrev pub NoneRose : FilesSeen → FilesSeen → SinkSeen → SinkSeen → VaultSeen → VaultSeen → Type 0
NoneRose files files' out out' vault vault' =
    Steady files.faults files'.faults × Steady out.faults out'.faults × Steady vault.faults vault'.faults

-- A status comes only where its cause stands. Where it does and nothing failed, no other one comes, but want of memory.
pub record ComesExactly (due : Status) (cause nothing_failed : Type 0) (status : Status) : Type 0 where
  pub only : status ≡ due → cause
  pub always : nothing_failed → cause → (status ≡ due) ⊎ (status ≡ Memory)

-- That of a shelf that is short, that of a log that is refused, that of a word that names nothing, that of a hub that is refused and that of words
-- that fit no command, of what is asked for.
pub record AreDue (stock : List Meaning) (files : List ℕ → Option (List ℕ)) (asked : Option Command) (nothing_failed : Type 0) (status : Status) : Type 0 where
  pub short : ComesExactly ShelfEmpty (IsShort stock files asked) nothing_failed status
  pub refused : ComesExactly LogRefused (IsRefused stock files asked) nothing_failed status
  pub unknown : ComesExactly UnknownName (IsUnknownName files asked) nothing_failed status
  pub untied : ComesExactly HubRefused (IsUntied files asked) nothing_failed status
  pub misused : ComesExactly Usage (IsMisused files asked) nothing_failed status
