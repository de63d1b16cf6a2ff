-- What holds of all texts and of all requests, beyond what a call says of its answer.
use Rattle.std.specs.Prelude.{ℕ, ℤ, pos, ◌≡◌, ◌⊎◌, ◌<◌, ◌≤◌, ◌+◌, ◌*◌, ◌/◌, true, false, int_le, unsigned_abs, slice_index, List, [], ◌∷◌, ◌++◌}
use Rattle.std.specs.Prelude.{length, replicate, Some, None}
use Rattle.cts_bits.specs.Bits.{bits_of}
use Rattle.cts_bits.specs.Fields.{bit_place_at}
use Rattle.cts_def.specs.declared.item_kind.Preset.{Preset}
use Rattle.cts_def.specs.declared.item_kind.Preset.TheVariants.{Whole, Raw}
use Rattle.cts_def.specs.Beginnings.{number_at}
use Rattle.cts_def.specs.Items.{ItemData, is_to_the_end}
use Rattle.cts_def.specs.Spans.{is_number, is_signed}
use Rattle.cts_def.specs.Packets.{DefinitionsData}
use Rattle.cts_cmd.specs.declared.built.Built.{Built}
use Rattle.cts_cmd.specs.declared.request.Given.{Given}
use Rattle.cts_cmd.specs.declared.request.Given.TheVariants as given
use Rattle.cts_cmd.specs.declared.request.Request.{Request}
use Rattle.cts_cmd.specs.declared.text_fault.TextCause.{TextCause}
use Rattle.cts_cmd.specs.Builds.{IsBuilt, WritesAll, place_of}
use Rattle.cts_cmd.specs.Checks.{is_wrong_raw}
use Rattle.cts_cmd.specs.Injects.{Injects, stood}
use Rattle.cts_cmd.specs.Texts.{FailsAt, IsCommandText}

-- ---- texts

-- One request alone, one place and one cause alone, and never both.
pub record IsReadInOneWay (text : List ℕ) : Type 0 where
  pub request : (r s : Request) → IsCommandText text r → IsCommandText text s → r ≡ s
  pub fault : (place other : ℕ) (cause why : TextCause) → FailsAt text place cause → FailsAt text other why → (place ≡ other) × (cause ≡ why)
  pub either : (r : Request) (place : ℕ) (cause : TextCause) → IsCommandText text r → FailsAt text place cause → ⊥

abbrev pub TextsAreReadInOneWay : Type 0
TextsAreReadInOneWay = (text : List ℕ) → IsReadInOneWay text

abbrev pub IsRequest : List ℕ → Type 0
IsRequest text = (r : Request) × IsCommandText text r

abbrev pub IsFault : List ℕ → Type 0
IsFault text = (place : ℕ) × (cause : TextCause) × FailsAt text place cause

-- Each text asks for something or fails somewhere.
abbrev pub TextsAreReadOrFail : Type 0
TextsAreReadOrFail = (text : List ℕ) → IsRequest text ⊎ IsFault text

-- ---- commands

-- A request is built to one number and the same bytes.
abbrev pub RequestsHaveOneCommand : Type 0
RequestsHaveOneCommand = (d : DefinitionsData) (r : Request) (one other : Built) → IsBuilt d r one → IsBuilt d r other → one ≡ other

-- The content is written to this bit: a bit of the number's field, or of the bytes from where the field begins. What goes to
-- the end stands after all bits that were there.
abbrev pub IsWrittenBit : ItemData → Preset → ℕ → Type 0
IsWrittenBit i (Whole z) k = (j : ℕ) × (j < unsigned_abs i.size) × (k ≡ bit_place_at i.order (unsigned_abs i.offset) (unsigned_abs i.size) j)
IsWrittenBit i (Raw bytes) k = (is_to_the_end i ≡ false) × (8 * (unsigned_abs i.offset / 8) ≤ k) × (k < 8 * (unsigned_abs i.offset / 8 + length bytes))

-- none of the items is written to the bit
abbrev pub IsLeftBy : (ItemData → Preset) → List ItemData → ℕ → Type 0
IsLeftBy holds [] k = Unit {0}
IsLeftBy holds (i ∷ items) k = (IsWrittenBit i (holds i) k → ⊥) × IsLeftBy holds items k

-- A bit that is there, and to which none of the items is written, stays.
abbrev pub OtherBitsStay : Type 0
OtherBitsStay =
    (holds : ItemData → Preset) (items : List ItemData) (old new : List ℕ) → WritesAll holds items old new → (k : ℕ) → k < 8 * length old
    → IsLeftBy holds items k
    → slice_index (bits_of new) k ≡ slice_index (bits_of old) k

-- A number stands in its field at the end, where no later item is written to a bit of it.
abbrev pub NumbersStand : Type 0
NumbersStand =
    (holds : ItemData → Preset) (before : List ItemData) (i : ItemData) (later : List ItemData) (z : ℤ) (old new : List ℕ) → holds i ≡ Whole z
    → WritesAll holds (before ++ i ∷ later) old new → ((k : ℕ) → IsWrittenBit i (Whole z) k → IsLeftBy holds later k)
    → number_at (place_of i) (is_signed i.kind) new ≡ z

-- ---- injected values

-- a raw value is no text for a number, with states or without, no number for a text or block, and none of an item without a length of its own
pub record RawValuesAreOfTheirKind : Type 0 where
  pub number : (i : ItemData) (t : List ℕ) → is_number i.kind ≡ true → is_wrong_raw i (given.Text t) ≡ true
  pub text : (i : ItemData) (z : ℤ) → is_number i.kind ≡ false → is_wrong_raw i (given.Whole z) ≡ true
  pub length : (i : ItemData) (g : Given) → int_le i.size (pos 0) ≡ true → is_wrong_raw i g ≡ true

-- what an injection is written over: zeros, or the bytes that stand, filled up with zeros and never cut
pub record InjectionsStandOnBytes : Type 0 where
  pub zeros : (count : ℕ) → stood None count ≡ replicate count 0
  pub filled : (bytes : List ℕ) (count : ℕ) → length bytes ≤ count → length (stood (Some bytes) count) ≡ count
  pub whole : (bytes : List ℕ) (count : ℕ) → count ≤ length bytes → stood (Some bytes) count ≡ bytes

-- An injection leaves no choice for the bytes.
abbrev pub InjectionsHaveOneOutcome : Type 0
InjectionsHaveOneOutcome = (members : List (ItemData × Given)) (old one other : List ℕ) → Injects members old one → Injects members old other → one ≡ other
