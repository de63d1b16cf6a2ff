-- The cells of items by their numbers are those of the items.
use Rattle.std.proofs.Common.{◌≡◌, ℕ, List, [], ◌∷◌, ◌++◌, map, refl, ap, Some}
use Rattle.std.specs.Prelude.{slice_get}
use Rattle.std.specs.List.{flat_map}
use Rattle.cts_conv.specs.declared.value.ValueKind.{ValueKind}
use Rattle.cts_def.specs.Items.{ItemData}
use Rattle.cts_def.specs.Packets.{PacketData}
use Rattle.cts_extract.specs.Columns.{cell, cell_at, cell_of}

pub cells_are : (kind : ValueKind) (p : PacketData) (bytes : List ℕ) (numbers : List ℕ) (items : List ItemData) → map (slice_get p.items) numbers ≡ map Some items
    → flat_map (cell_of kind p bytes) numbers ≡ flat_map (cell kind p bytes) items
cells_are kind p bytes [] [] h = refl
cells_are kind p bytes [] (i ∷ items) h = cc
cells_are kind p bytes (n ∷ numbers) [] h = cc
cells_are kind p bytes (n ∷ numbers) (i ∷ items) h =
    let first : slice_get p.items n ≡ Some i = cc in
    let later : map (slice_get p.items) numbers ≡ map Some items = cc in
    let here : cell_of kind p bytes n ≡ cell kind p bytes i = ap (cell_at kind p bytes) first in
    let rest = cells_are kind p bytes numbers items later in
    (λ k. here k ++ rest k)
