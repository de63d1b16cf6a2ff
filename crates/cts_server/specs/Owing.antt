-- What the workers of a site need, and what they owe.
use Rattle.std.specs.Prelude.{ℕ, Bool, List}
use Rattle.cts_chain.specs.Shapes.{ChainData}
use Rattle.cts_def.specs.Sites.{SiteData}
use Rattle.cts_entry.specs.declared.entry.Entry.{Entry}
use Rattle.cts_outside.specs.Seen.{LineSeen, VaultSeen}
use Rattle.cts_table.specs.declared.basis.Basis.{Basis}
use Rattle.cts_server.specs.Desks.{DeskRule, MayRunDesk, ReadsInHolds, is_cancelled as is_cancelled_desk}
use Rattle.cts_server.specs.Kinds.{both_of, note_of, test_of}
use Rattle.cts_server.specs.Lines.{MayRunLine, OwesLine, is_cancelled}
use Rattle.cts_server.specs.Scribes.{MayRunScribe, OwesScribe, is_cancelled as is_cancelled_scribe}
use Rattle.cts_server.specs.declared.kinds.ByKind.{ByKind}
use Rattle.cts_server.specs.declared.kinds.ByKind.TheVariants.{Interface, Slot, Desk, Scribe}
use Rattle.cts_server.specs.declared.kinds.DeskLeft.{DeskLeft}
use Rattle.cts_server.specs.declared.kinds.Line.{Line}
use Rattle.cts_server.specs.declared.kinds.LineLeft.{LineLeft}
use Rattle.cts_server.specs.declared.kinds.ScribeLeft.{ScribeLeft}

module _ {D Q V C : Type 0} (line : D → LineSeen) (door : Q → LineSeen) (vault : V → VaultSeen) (shape : C → ChainData) (site : SiteData) where
  -- the worker of this number may do this work over a site and limits
  abbrev pub MayWork : ByKind (Line D C) (Line Q C) Q V → ℕ → Basis → Type 0
  MayWork (Interface l) by basis = MayRunLine basis by site (shape l.chain)
  MayWork (Slot l) by basis = MayRunLine basis by site (shape l.chain)
  MayWork (Desk d) by basis = MayRunDesk basis by
  MayWork (Scribe v) by basis = MayRunScribe basis by site (vault v)

module _ {D Q V C : Type 0} (rule : DeskRule) (line : D → LineSeen) (door : Q → LineSeen) (vault : V → VaultSeen) (digest : List ℕ) where
  -- what the worker of this number owes that did this work, of the history, and of what it left, where this is what a desk owes
  abbrev pub WorkOwesBy : ByKind (Line D C) (Line Q C) Q V → ℕ → Basis → List ℕ → List Entry → ByKind (LineLeft D) (LineLeft Q) (DeskLeft Q)
      (ScribeLeft V) → Type 0
  WorkOwesBy work by basis found history left = both_of
      (λ l n. (connections : ℕ) × OwesLine basis by found history (line l.device) (line n.device) connections n.why)
      (λ l n. (connections : ℕ) × OwesLine basis by found history (door l.device) (door n.device) connections n.why)
      (λ d n. rule basis by found history (door d) (door n.door) (note_of n))
      (λ v n. (cursor : ℕ) × OwesScribe basis.site digest by history (vault v) (vault n.vault) cursor n.why)
      work left

module _ {D Q V C : Type 0} (line : D → LineSeen) (door : Q → LineSeen) (vault : V → VaultSeen) (digest : List ℕ) where
  -- the same where desks read in holds of the turn
  abbrev pub WorkOwes : ByKind (Line D C) (Line Q C) Q V → ℕ → Basis → List ℕ → List Entry → ByKind (LineLeft D) (LineLeft Q) (DeskLeft Q)
      (ScribeLeft V) → Type 0
  WorkOwes work by basis found history left = WorkOwesBy ReadsInHolds line door vault digest work by basis found history left

module _ {D Q V : Type 0} where
  -- whether what a worker left says that it was not started
  abbrev pub was_cancelled : ByKind (LineLeft D) (LineLeft Q) (DeskLeft Q) (ScribeLeft V) → Bool
  was_cancelled left = test_of (λ n. is_cancelled n.why) (λ n. is_cancelled n.why) (λ n. is_cancelled_desk n.why) (λ n. is_cancelled_scribe n.why) left
