-- What a look that waits for nobody gives.
use Rattle.std.specs.Prelude.{◌≡◌, ℕ, List, [], Bool, true, false, length, Option, Result, Ok, Err}
use Rattle.cts_base.specs.declared.memory.Memory.{Memory}
use Rattle.cts_def.specs.declared.time.Time.{Time}
use Rattle.cts_entry.specs.declared.entry.Entry.{Entry}
use Rattle.cts_outside.specs.Causes.{Rose}
use Rattle.cts_table.specs.declared.basis.Basis.{Basis}
use Rattle.cts_table.specs.States.{Shown}
use Rattle.cts_api.specs.Looks.{IsChanging, Looks}
use Rattle.cts_api.specs.Points.{point_of}
use Rattle.cts_api.specs.Replies as replies
use Rattle.cts_api.specs.declared.looked.Look.{Look}
use Rattle.cts_snap.specs.declared.reading.SnapAnswer.{SnapAnswer}
use Rattle.cts_snap.specs.declared.reading.SnapAnswer.TheVariants.{Reply, Appends, Away}

-- a look at a hall, with the number of its entries
abbrev pub IsShown : Shown → List ℕ → Result (ℕ × Look) Memory → Type 0
IsShown h body (Ok x) = (x.0 ≡ length h.entries) × Looks h body x.1
IsShown h body (Err e) = Unit {0}

-- The text is that of the reply over the list, whoever asks and when, and that reply appends nothing.
abbrev pub TextOver : Basis → List Entry → List ℕ → Option (List ℕ) → Type 0
TextOver b list body text = (by : ℕ) (time : Time) → (r : replies.Reply) × replies.IsReply (point_of b list) by time body r
    × (text ≡ replies.text_of r) × (r.entries ≡ [])

-- An answer over the list that the reader has then. Away comes only where the count of refusals rose.
abbrev pub IsRead : Basis → List Entry → List Entry → ℕ → ℕ → List ℕ → SnapAnswer → Type 0
IsRead b old new r s body (Reply front text) = (front ≡ length new) × IsChanging body false × TextOver b new body text
IsRead b old new r s body Appends = IsChanging body true
IsRead b old new r s body Away = Rose r s × (new ≡ old)
