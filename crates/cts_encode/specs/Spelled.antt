-- What a protocol writes, as a function.
use Rattle.std.specs.Prelude.{◌≡◌, ◌↔◌, ◌<◌, ℕ, ◌-◌, Bool, true, false, List, ◌++◌, length, take, drop, Option, Some, None, Result, Ok, Err, IsTrue}
use Rattle.byteorder.specs.Endian.{big_bytes}
use Rattle.cts_bits.specs.Places.{span}
use Rattle.cts_bits.specs.Windows.{in_order, number_in, replaced, tail_of}
use Rattle.cts_def.specs.Protocols.{LengthData, SpecData, Burst, Fixed, Length, Terminated, Preidentified, is_sound_spec}
use Rattle.cts_def.specs.Starts.{PlaceData}
use Rattle.cts_framing.specs.Framing.{Heading}
use Rattle.cts_framing.specs.Heads.{AreBytes}
use Rattle.cts_framing.specs.Rows.{reach}
use Rattle.cts_encode.specs.Spellings.{IsSpelling, count_of, headed, refusal, sync_of, synced, termination_of}
use Rattle.cts_encode.specs.declared.encode_fault.EncodeFault.{EncodeFault}
use Rattle.cts_encode.specs.declared.encode_fault.EncodeFault.TheVariants.{HoldsTermination, NoPlace, LengthTooLarge, Memory}

-- The bytes with a number in a field: those that the field touches are written again, with the number in place of its bits.
abbrev pub with_field : PlaceData → ℕ → List ℕ → List ℕ
with_field p number old =
    let size = span p.offset p.bits in
    let first = reach p - size in
    let touched = take (reach p - first) (drop first old) in
    take first old ++ (in_order p.order (big_bytes size (replaced (number_in p.order touched) (tail_of p.offset p.bits) p.bits number)) ++ drop size
    (drop first old))

abbrev pub with_count : LengthData → Option ℕ → List ℕ → List ℕ
with_count l None old = old
with_count l (Some count) old = with_field l.place count old

-- the count is written into its field where fill is true
abbrev pub counted : LengthData → Bool → ℕ → List ℕ → List ℕ
counted l true total old = with_count l (count_of l total) old
counted l false total old = old

-- the frame of the bytes, unless they are refused
abbrev pub frame_of : SpecData → Heading → List ℕ → List ℕ
frame_of (Burst b) h bytes = synced (Burst b) bytes
frame_of (Fixed f) h bytes = synced (Fixed f) bytes
frame_of (Length l) h bytes = counted l l.fill (length (synced (Length l) bytes)) (synced (Length l) bytes)
frame_of (Terminated t) h bytes = synced (Terminated t) bytes
frame_of (Preidentified p) h bytes = headed p h bytes

abbrev pub unless_refused : Option EncodeFault → List ℕ → Option (List ℕ)
unless_refused None frame = Some frame
unless_refused (Some fault) frame = None

-- the spelling of the bytes by a protocol: none where they are refused
abbrev pub spelling_of : SpecData → Heading → List ℕ → Option (List ℕ)
spelling_of s h bytes = unless_refused (refusal s h bytes) (frame_of s h bytes)

-- An answer: the spelling was put after the old bytes; or there is none, or no memory was found, and nothing was put.
abbrev pub Spells : Option (List ℕ) → List ℕ → List ℕ → Result (Unit {0}) EncodeFault → Type 0
Spells spelling old new (Ok u) = (frame : List ℕ) × (spelling ≡ Some frame) × (new ≡ old ++ frame)
Spells spelling old new (Err Memory) = new ≡ old
Spells spelling old new (Err HoldsTermination) = (spelling ≡ None) × (new ≡ old)
Spells spelling old new (Err NoPlace) = (spelling ≡ None) × (new ≡ old)
Spells spelling old new (Err LengthTooLarge) = (spelling ≡ None) × (new ≡ old)

-- There is no spelling exactly where the bytes are refused, and one exactly where it is the spelling of bytes that are not.
pub record IsTold (s : SpecData) (h : Heading) (bytes : List ℕ) : Type 0 where
  pub none : (spelling_of s h bytes ≡ None) ↔ ((fault : EncodeFault) × (refusal s h bytes ≡ Some fault))
  pub some : (frame : List ℕ) → (spelling_of s h bytes ≡ Some frame) ↔ ((refusal s h bytes ≡ None) × IsSpelling s h bytes frame)

abbrev pub SpellingsAreTold : Type 0
SpellingsAreTold = (s : SpecData) (h : Heading) (bytes : List ℕ) → IsTrue (is_sound_spec s) → AreBytes (sync_of s) → AreBytes bytes → IsTold s h bytes

-- The sync pattern and the termination are bytes.
pub record IsOfBytes (s : SpecData) : Type 0 where
  pub sync : AreBytes (sync_of s)
  pub termination : AreBytes (termination_of s)

-- The names are bytes, so few that a head can state how many.
pub record HasByteNames (h : Heading) : Type 0 where
  pub target : AreBytes h.target
  pub packet : AreBytes h.packet
  pub short_target : length h.target < 256
  pub short_packet : length h.packet < 256

-- What is written of bytes is bytes.
abbrev pub SpellingsAreBytes : Type 0
SpellingsAreBytes = (s : SpecData) (h : Heading) (bytes frame : List ℕ) → IsTrue (is_sound_spec s) → IsOfBytes s → HasByteNames h → AreBytes bytes
    → spelling_of s h bytes ≡ Some frame → AreBytes frame
