-- Values of four kinds: tests of them, relations between two of them, and those of one kind among them.
use Rattle.std.specs.Prelude.{ℕ, Bool, Option, Some, None}
use Rattle.cts_line.specs.declared.ending.LineWhy.{LineWhy}
use Rattle.cts_server.specs.declared.kinds.ByKind.{ByKind}
use Rattle.cts_server.specs.declared.kinds.ByKind.TheVariants.{Interface, Slot, Desk, Scribe}
use Rattle.cts_server.specs.declared.kinds.DeskLeft.{DeskLeft}
use Rattle.cts_server.specs.declared.kinds.LineLeft.{LineLeft}
use Rattle.cts_server.specs.declared.worked.DeskNote.{DeskNote}

-- a test of a value, by its kind
module _ {I S D C : Type 0} where
  abbrev pub test_of : (I → Bool) → (S → Bool) → (D → Bool) → (C → Bool) → ByKind I S D C → Bool
  test_of i s d c (Interface x) = i x
  test_of i s d c (Slot x) = s x
  test_of i s d c (Desk x) = d x
  test_of i s d c (Scribe x) = c x

-- two values are of one kind, and what holds of these two
module _ {I S D C I' S' D' C' : Type 0} where
  abbrev pub both_of : (I → I' → Type 0) → (S → S' → Type 0) → (D → D' → Type 0) → (C → C' → Type 0) → ByKind I S D C → ByKind I' S' D' C' → Type 0
  both_of i s d c (Interface x) (Interface y) = i x y
  both_of i s d c (Slot x) (Slot y) = s x y
  both_of i s d c (Desk x) (Desk y) = d x y
  both_of i s d c (Scribe x) (Scribe y) = c x y
  both_of i s d c (Interface x) (Slot y) = ⊥
  both_of i s d c (Interface x) (Desk y) = ⊥
  both_of i s d c (Interface x) (Scribe y) = ⊥
  both_of i s d c (Slot x) (Interface y) = ⊥
  both_of i s d c (Slot x) (Desk y) = ⊥
  both_of i s d c (Slot x) (Scribe y) = ⊥
  both_of i s d c (Desk x) (Interface y) = ⊥
  both_of i s d c (Desk x) (Slot y) = ⊥
  both_of i s d c (Desk x) (Scribe y) = ⊥
  both_of i s d c (Scribe x) (Interface y) = ⊥
  both_of i s d c (Scribe x) (Slot y) = ⊥
  both_of i s d c (Scribe x) (Desk y) = ⊥

-- ---- a value of this kind, of which this holds by its number, its aim and the device that it was made of

module _ {I S D C A X : Type 0} (Of : ℕ → A → X → I → Type 0) where
  abbrev pub IsInterface : ℕ → A → X → ByKind I S D C → Type 0
  IsInterface by aim x (Interface w) = Of by aim x w
  IsInterface by aim x (Slot w) = ⊥
  IsInterface by aim x (Desk w) = ⊥
  IsInterface by aim x (Scribe w) = ⊥

module _ {I S D C A X : Type 0} (Of : ℕ → A → X → S → Type 0) where
  abbrev pub IsSlot : ℕ → A → X → ByKind I S D C → Type 0
  IsSlot by aim x (Interface w) = ⊥
  IsSlot by aim x (Slot w) = Of by aim x w
  IsSlot by aim x (Desk w) = ⊥
  IsSlot by aim x (Scribe w) = ⊥

module _ {I S D C A X : Type 0} (Of : ℕ → A → X → D → Type 0) where
  abbrev pub IsDesk : ℕ → A → X → ByKind I S D C → Type 0
  IsDesk by aim x (Interface w) = ⊥
  IsDesk by aim x (Slot w) = ⊥
  IsDesk by aim x (Desk w) = Of by aim x w
  IsDesk by aim x (Scribe w) = ⊥

module _ {I S D C : Type 0} (Of : C → Type 0) where
  abbrev pub IsScribe : ByKind I S D C → Type 0
  IsScribe (Interface w) = ⊥
  IsScribe (Slot w) = ⊥
  IsScribe (Desk w) = ⊥
  IsScribe (Scribe w) = Of w

-- ---- a value, where it is of this kind

module _ {I S D C : Type 0} where
  abbrev pub the_interface : ByKind I S D C → Option I
  the_interface (Interface x) = Some x
  the_interface (Slot x) = None
  the_interface (Desk x) = None
  the_interface (Scribe x) = None

  abbrev pub the_slot : ByKind I S D C → Option S
  the_slot (Interface x) = None
  the_slot (Slot x) = Some x
  the_slot (Desk x) = None
  the_slot (Scribe x) = None

  abbrev pub the_desk : ByKind I S D C → Option D
  the_desk (Interface x) = None
  the_desk (Slot x) = None
  the_desk (Desk x) = Some x
  the_desk (Scribe x) = None

  abbrev pub the_scribe : ByKind I S D C → Option C
  the_scribe (Interface x) = None
  the_scribe (Slot x) = None
  the_scribe (Desk x) = None
  the_scribe (Scribe x) = Some x

-- why an interface or a slot ended
abbrev pub line_why : {X Y D C : Type 0} → ByKind (LineLeft X) (LineLeft Y) D C → Option LineWhy
line_why (Interface x) = Some x.why
line_why (Slot x) = Some x.why
line_why (Desk x) = None
line_why (Scribe x) = None

-- what a desk left, beside its door
abbrev pub note_of : {X : Type 0} → DeskLeft X → DeskNote
note_of x = record { fronts = x.fronts; why = x.why; tied = x.tied }

abbrev pub desk_note : {I S X C : Type 0} → ByKind I S (DeskLeft X) C → Option DeskNote
desk_note (Interface x) = None
desk_note (Slot x) = None
desk_note (Desk x) = Some (note_of x)
desk_note (Scribe x) = None
