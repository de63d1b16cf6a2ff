-- What stands in a command.
use Rattle.std.specs.Prelude.{◌≡◌, ℕ, ◌+◌, ◌/◌, unsigned_abs, List, [], ◌∷◌, ◌++◌, length, drop, slice_range, if◌then◌else◌}
use Rattle.cts_def.specs.declared.item_kind.Preset.{Preset}
use Rattle.cts_def.specs.declared.item_kind.Preset.TheVariants.{Whole, Raw}
use Rattle.cts_def.specs.Beginnings.{number_at}
use Rattle.cts_def.specs.Items.{ItemData, is_to_the_end}
use Rattle.cts_def.specs.Packets.{DefinitionsData, PacketData}
use Rattle.cts_def.specs.Spans.{is_signed}
use Rattle.cts_cmd.specs.declared.built.Built.{Built}
use Rattle.cts_cmd.specs.declared.request.Given.{Given}
use Rattle.cts_cmd.specs.declared.request.Request.{Request}
use Rattle.cts_cmd.specs.Builds.{IsBuilt, place_of}
use Rattle.cts_cmd.specs.Contents.{content}
use Rattle.cts_cmd.specs.Laws.{IsLeftBy, IsWrittenBit}

-- the bytes of the item's field in a command of this length: as many as the count from where it begins, or all after the command's
-- length where it goes to the end
abbrev pub field_bytes : ℕ → ItemData → ℕ → List ℕ → List ℕ
field_bytes len i count bytes =
    if is_to_the_end i then drop len bytes else slice_range bytes (unsigned_abs i.offset / 8) (unsigned_abs i.offset / 8 + count)

-- The item's field holds this in the bytes of a command of this length.
abbrev pub Holds : ℕ → ItemData → Preset → List ℕ → Type 0
Holds len i (Whole z) bytes = number_at (place_of i) (is_signed i.kind) bytes ≡ z
Holds len i (Raw held) bytes = field_bytes len i (length held) bytes ≡ held

-- what an item that goes to the end adds after the command's length
abbrev pub added : ItemData → Preset → List ℕ
added i (Whole z) = []
added i (Raw bytes) = if is_to_the_end i then bytes else []

-- what all items add
abbrev pub all_added : (ItemData → Preset) → List ItemData → List ℕ
all_added holds [] = []
all_added holds (i ∷ items) = added i (holds i) ++ all_added holds items

-- The bytes of a command with these parameters: as many as its length, and then those of the item that goes to the end. Each
-- item's field holds what is given for it, or else its default, where no later item is written to a bit of that field.
pub record HoldsItsParameters (c : PacketData) (params : List (List ℕ × Given)) (bytes : List ℕ) : Type 0 where
  pub count : length bytes ≡ c.length + length (all_added (content params) c.items)
  pub end : drop c.length bytes ≡ all_added (content params) c.items
  pub fields : (before : List ItemData) (i : ItemData) (later : List ItemData) → c.items ≡ before ++ i ∷ later
      → ((k : ℕ) → IsWrittenBit i (content params i) k → IsLeftBy (content params) later k) → Holds c.length i (content params i) bytes

-- Each command that the request is built to holds its parameters.
abbrev pub CommandsHoldTheirParameters : DefinitionsData → Request → Type 0
CommandsHoldTheirParameters d r = (b : Built) (built : IsBuilt d r b) → HoldsItsParameters built.command.it r.params b.bytes
