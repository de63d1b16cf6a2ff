-- What a value of one kind says, and what was left of it.
use Rattle.std.proofs.Common.{◌≡◌, ℕ, refl}
use Rattle.cts_server.specs.Kinds.{IsDesk, IsInterface, IsScribe, IsSlot, both_of}
use Rattle.cts_server.specs.declared.kinds.ByKind.{ByKind}
use Rattle.cts_server.specs.declared.kinds.ByKind.TheVariants.{Interface, Slot, Desk, Scribe}

-- ---- what a value of each kind was made of

module _ {I S D C : Type 0} where
  module _ {A X : Type 0} (Of : ℕ → A → X → I → Type 0) (n : ℕ) (a : A) (x : X) where
    pub interface_made : (w : ByKind I S D C) → IsInterface Of n a x w → (v : I) × (w ≡ Interface v) × Of n a x v
    interface_made (Interface v) is = (v, refl, is)
    interface_made (Slot v) is = absurd is
    interface_made (Desk v) is = absurd is
    interface_made (Scribe v) is = absurd is

  module _ {A X : Type 0} (Of : ℕ → A → X → S → Type 0) (n : ℕ) (a : A) (x : X) where
    pub slot_made : (w : ByKind I S D C) → IsSlot Of n a x w → (v : S) × (w ≡ Slot v) × Of n a x v
    slot_made (Interface v) is = absurd is
    slot_made (Slot v) is = (v, refl, is)
    slot_made (Desk v) is = absurd is
    slot_made (Scribe v) is = absurd is

  module _ {A X : Type 0} (Of : ℕ → A → X → D → Type 0) (n : ℕ) (a : A) (x : X) where
    pub desk_made : (w : ByKind I S D C) → IsDesk Of n a x w → (v : D) × (w ≡ Desk v) × Of n a x v
    desk_made (Interface v) is = absurd is
    desk_made (Slot v) is = absurd is
    desk_made (Desk v) is = (v, refl, is)
    desk_made (Scribe v) is = absurd is

  module _ (Of : C → Type 0) where
    pub scribe_made : (w : ByKind I S D C) → IsScribe Of w → (v : C) × (w ≡ Scribe v) × Of v
    scribe_made (Interface v) is = absurd is
    scribe_made (Slot v) is = absurd is
    scribe_made (Desk v) is = absurd is
    scribe_made (Scribe v) is = (v, refl, is)

-- ---- what was left of a value of each kind is of that kind too

module _ {I S D C I' S' D' C' : Type 0} (i : I → I' → Type 0) (s : S → S' → Type 0) (d : D → D' → Type 0) (c : C → C' → Type 0) where
  pub interface_left : (v : I) (left : ByKind I' S' D' C') → both_of i s d c (Interface v) left → (p : I') × (left ≡ Interface p) × i v p
  interface_left v (Interface p) is = (p, refl, is)
  interface_left v (Slot p) is = absurd is
  interface_left v (Desk p) is = absurd is
  interface_left v (Scribe p) is = absurd is

  pub slot_left : (v : S) (left : ByKind I' S' D' C') → both_of i s d c (Slot v) left → (p : S') × (left ≡ Slot p) × s v p
  slot_left v (Interface p) is = absurd is
  slot_left v (Slot p) is = (p, refl, is)
  slot_left v (Desk p) is = absurd is
  slot_left v (Scribe p) is = absurd is

  pub desk_left : (v : D) (left : ByKind I' S' D' C') → both_of i s d c (Desk v) left → (p : D') × (left ≡ Desk p) × d v p
  desk_left v (Interface p) is = absurd is
  desk_left v (Slot p) is = absurd is
  desk_left v (Desk p) is = (p, refl, is)
  desk_left v (Scribe p) is = absurd is

  pub scribe_left : (v : C) (left : ByKind I' S' D' C') → both_of i s d c (Scribe v) left → (p : C') × (left ≡ Scribe p) × c v p
  scribe_left v (Interface p) is = absurd is
  scribe_left v (Slot p) is = absurd is
  scribe_left v (Desk p) is = absurd is
  scribe_left v (Scribe p) is = (p, refl, is)
