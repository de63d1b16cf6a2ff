-- What a worker owes goes on to hold when others append.
use Rattle.std.proofs.Common.{ℕ, List}
use Rattle.cts_entry.specs.declared.entry.Entry.{Entry}
use Rattle.cts_outside.specs.Seen.{LineSeen, VaultSeen}
use Rattle.cts_table.specs.declared.basis.Basis.{Basis}
use Rattle.cts_server.specs.Desks.{DeskLasts, DeskRule}
use Rattle.cts_server.specs.Kinds.{note_of}
use Rattle.cts_server.specs.Lasting.{Lasts}
use Rattle.cts_server.specs.LineLaws.{line_lasts}
use Rattle.cts_server.specs.Owing.{WorkOwesBy}
use Rattle.cts_server.specs.ScribeLaws.{scribe_lasts}
use Rattle.cts_server.specs.declared.kinds.ByKind.{ByKind}
use Rattle.cts_server.specs.declared.kinds.ByKind.TheVariants.{Interface, Slot, Desk, Scribe}
use Rattle.cts_server.specs.declared.kinds.DeskLeft.{DeskLeft}
use Rattle.cts_server.specs.declared.kinds.Line.{Line}
use Rattle.cts_server.specs.declared.kinds.LineLeft.{LineLeft}
use Rattle.cts_server.specs.declared.kinds.ScribeLeft.{ScribeLeft}

module _ {D Q V C : Type 0} (rule : DeskRule) (keeps : DeskLasts rule) (line : D → LineSeen) (door : Q → LineSeen) (vault : V → VaultSeen)
    (digest : List ℕ) where
  pub work_lasts : (w : ByKind (Line D C) (Line Q C) Q V) (by : ℕ) (basis : Basis) (found : List ℕ)
      (left : ByKind (LineLeft D) (LineLeft Q) (DeskLeft Q) (ScribeLeft V))
      → Lasts by (λ (history : List Entry). WorkOwesBy rule line door vault digest w by basis found history left)
  work_lasts (Interface x) by basis found (Interface y) seen whole begins own o =
      (o.0, line_lasts basis by found (line x.device) (line y.device) o.0 y.why seen whole begins own o.1)
  work_lasts (Interface x) by basis found (Slot y) seen whole begins own o = absurd o
  work_lasts (Interface x) by basis found (Desk y) seen whole begins own o = absurd o
  work_lasts (Interface x) by basis found (Scribe y) seen whole begins own o = absurd o
  work_lasts (Slot x) by basis found (Interface y) seen whole begins own o = absurd o
  work_lasts (Slot x) by basis found (Slot y) seen whole begins own o =
      (o.0, line_lasts basis by found (door x.device) (door y.device) o.0 y.why seen whole begins own o.1)
  work_lasts (Slot x) by basis found (Desk y) seen whole begins own o = absurd o
  work_lasts (Slot x) by basis found (Scribe y) seen whole begins own o = absurd o
  work_lasts (Desk x) by basis found (Interface y) seen whole begins own o = absurd o
  work_lasts (Desk x) by basis found (Slot y) seen whole begins own o = absurd o
  work_lasts (Desk x) by basis found (Desk y) seen whole begins own o = keeps basis by found (door x) (door y.door) (note_of y) seen whole begins own o
  work_lasts (Desk x) by basis found (Scribe y) seen whole begins own o = absurd o
  work_lasts (Scribe x) by basis found (Interface y) seen whole begins own o = absurd o
  work_lasts (Scribe x) by basis found (Slot y) seen whole begins own o = absurd o
  work_lasts (Scribe x) by basis found (Desk y) seen whole begins own o = absurd o
  work_lasts (Scribe x) by basis found (Scribe y) seen whole begins own o =
      (o.0, scribe_lasts basis.site digest by (vault x) (vault y.vault) o.0 y.why seen whole begins own o.1)
