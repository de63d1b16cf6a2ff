-- Who is not connected in a history that a hall may keep.
use Rattle.std.specs.Prelude.{◌≡◌, ℕ, true, false, List}
use Rattle.cts_def.specs.Sites.{IsSoundSite}
use Rattle.cts_entry.specs.declared.entry.Entry.{Entry}
use Rattle.cts_entry.specs.Histories.{is_connected}
use Rattle.cts_entry.specs.Legal.{has_ended}
use Rattle.cts_table.specs.Keeping.{IsKept}
use Rattle.cts_table.specs.declared.basis.Basis.{Basis}
use Rattle.cts_worker.specs.Lasts.{never_connects}

-- Who has ended is not connected.
abbrev pub EndedIsOff : Type 0
EndedIsOff = (b : Basis) (history : List Entry) (by : ℕ) → IsKept b history → has_ended by history ≡ true → is_connected by history ≡ false

-- A desk and the scribe are not connected.
abbrev pub DeskIsOff : Type 0
DeskIsOff = (b : Basis) (history : List Entry) (by : ℕ) → IsKept b history → IsSoundSite b.site → never_connects b.site by ≡ true
    → is_connected by history ≡ false
