-- What the closed history says of the logs of a scribe.
use Rattle.std.specs.Prelude.{ℕ, List}
use Rattle.cts_def.specs.Makers.{scribe}
use Rattle.cts_def.specs.Sites.{IsSoundSite}
use Rattle.cts_entry.specs.declared.entry.Entry.{Entry}
use Rattle.cts_outside.specs.Seen.{VaultSeen}
use Rattle.cts_scribe.specs.Vaults.{AreWhole}
use Rattle.cts_scribe.specs.declared.ending.ScribeWhy.TheVariants.{Drained}
use Rattle.cts_table.specs.Keeping.{IsKept}
use Rattle.cts_table.specs.declared.basis.Basis.{Basis}
use Rattle.cts_server.specs.Scribes.{OwesScribe}

-- Where what a drained scribe owes holds of a history that its site allows, the logs in its vault are those of the whole history, whole and synced.
abbrev pub DrainedLogsAreWhole : Type 0
DrainedLogsAreWhole = (b : Basis) (history : List Entry) (digest : List ℕ) (old new : VaultSeen) (cursor : ℕ) → IsSoundSite b.site → IsKept b history
    → OwesScribe b.site digest scribe history old new cursor Drained → AreWhole b.site digest history new.told
