-- One item's part in how a packet begins, and places as identities.
use Rattle.std.specs.Prelude.{ℕ, Bool, true, List, Option, Some, None}
use Rattle.cts_def.specs.Beginnings.{has_id, id_field_of}
use Rattle.cts_def.specs.Items.{ItemData}
use Rattle.cts_def.specs.Starts.{IdField}
use Rattle.cts_def.specs.declared.ident.Ident.{Ident}
use Rattle.cts_def.specs.declared.ident.Ident.TheVariants.{Known, Unknown}

abbrev pub has_its_id : List ℕ → Option IdField → Bool
has_its_id bytes None = true
has_its_id bytes (Some i) = has_id bytes i

-- the item is no id item, or its field lies within the bytes and has its id there
abbrev pub has_own_id : List ℕ → ItemData → Bool
has_own_id bytes i = has_its_id bytes (id_field_of i)

-- the packet at this place of a list
abbrev pub at_place : Option ℕ → Ident
at_place None = Unknown
at_place (Some n) = Known n
