-- What the two copies of a hall and the entries that wait for them stand for.
use Rattle.std.specs.Prelude.{◌≡◌, ℕ, ◌+◌, ◌≤◌, List, [], ◌∷◌, ◌++◌, length}
use mathlib.Core.List.{IsPrefix}
use Rattle.cts_entry.specs.declared.entry.Entry.{Entry}
use Rattle.cts_table.specs.declared.basis.Basis.{Basis}
use Rattle.cts_table.specs.Keeping.{IsKept}

-- a hall of this basis can be published over that one: the site is the same, and the limits are no greater
pub record FitsIn (of over : Basis) : Type 0 where
  pub site : of.site ≡ over.site
  pub entries : of.entries ≤ over.entries
  pub bytes : of.bytes ≤ over.bytes

-- an entry, and the list that ends with it
pub record Next : Type 0 where
  pub entry : Entry
  pub list : List Entry

-- the list ends with the entry
abbrev pub EndsWith : List Entry → Entry → Type 0
EndsWith list entry = (before : List Entry) × (list ≡ before ++ entry ∷ [])

-- the list once an entry was taken in
abbrev pub taken_in : List Entry → Next → List Entry
taken_in list next = next.list

-- the list that readers take, that which the next publication shows, and that which the book has
pub record Writes : Type 0 where
  pub published : List Entry
  pub waiting : List Entry
  pub list : List Entry

-- Each begins the next, the book is at most one entry ahead, and a hall over the basis may keep its list.
pub record IsWriting (b : Basis) (w : Writes) : Type 0 where
  pub shown : IsPrefix w.published w.waiting
  pub begins : IsPrefix w.waiting w.list
  pub ahead : length w.list ≤ length w.waiting + 1
  pub kept : IsKept b w.list
