-- Blocks and texts as they are read.
use Rattle.std.specs.Prelude.{◌≡◌, ℕ, ◌<◌, List, slice_index, Some}
use Rattle.cts_def.specs.Characters.{text_bytes}
use Rattle.cts_def.specs.declared.item_kind.ItemKind.TheVariants.{Str, Block}
use Rattle.cts_conv.specs.Plains.{plain_text}
use Rattle.cts_conv.specs.Raws.{characters_of}
use Rattle.cts_conv.specs.declared.value.Value.TheVariants.{Text, Raw}

-- each number of the list is a byte
abbrev pub AreBytes : List ℕ → Type 0
AreBytes bytes = (k : ℕ) → slice_index bytes k < 256

-- The plain text of a block, given for a BLOCK, is its bytes, and that of a text's characters, given for a STRING, is theirs.
pub record AreReadBack (bytes : List ℕ) : Type 0 where
  pub block : text_bytes Block (plain_text (Raw bytes)) ≡ Some bytes
  pub text : text_bytes Str (plain_text (Text (characters_of bytes))) ≡ Some bytes

abbrev pub PlainTextsMeanTheirBytes : Type 0
PlainTextsMeanTheirBytes = (bytes : List ℕ) → AreBytes bytes → AreReadBack bytes
