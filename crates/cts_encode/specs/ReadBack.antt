-- What is written is read again.
use Rattle.std.specs.Prelude.{◌≡◌, ◌≤◌, ◌<◌, ◌⊎◌, ℕ, ◌-◌, ◌^◌, Bool, true, false, ◌&&◌, List, [], ◌++◌, length, Some, None, IsTrue}
use Rattle.cts_bits.specs.Places.{span}
use Rattle.cts_def.specs.Protocols.{SpecData, Burst, Fixed, Length, Terminated, Preidentified, is_sound_spec}
use Rattle.cts_def.specs.Starts.{PlaceData}
use Rattle.cts_framing.specs.Framing.{Heading, Output, plain}
use Rattle.cts_framing.specs.Cuts.{Pieces, IsCut, and_output, one_if_empty}
use Rattle.cts_framing.specs.Heads.{AreBytes, HeadData, FitsHead}
use Rattle.cts_framing.specs.Layouts.{has_flags, has_wrong_flags, stored_at, has_laid, laid_of, laid_end, laid_head}
use Rattle.cts_framing.specs.Rows.{reach, framing_of}
use Rattle.cts_encode.specs.Spellings.{IsSpelling, refusal, sync_of}

-- one frame with this output, and nothing else
abbrev pub single : Output → Pieces
single o = record { outs = and_output o o.bytes []; skipped = 0; empty = one_if_empty o.bytes; rest = []; bad = None }

-- what is read of a heading: without flags no packet is told to be stored
abbrev pub read_as : Bool → Heading → Heading
read_as flagged h = record h { stored = flagged && h.stored }

-- what is read where the bytes were written
abbrev pub output_for : SpecData → Heading → List ℕ → Output
output_for (Burst s) h bytes = plain bytes
output_for (Fixed f) h bytes = plain bytes
output_for (Length l) h bytes = plain bytes
output_for (Terminated t) h bytes = plain bytes
output_for (Preidentified p) h bytes = record { bytes = bytes; heading = Some (read_as (has_flags p.layout) h) }

-- the first byte that holds a bit of the field
abbrev pub field_begin : PlaceData → ℕ
field_begin p = reach p - span p.offset p.bits

-- The protocols that read what they write. The sync pattern and the length field lie within the discarded bytes and share
-- none; a termination is the one that is looked for, and is stripped.
abbrev pub ReadsBack : SpecData → Type 0
ReadsBack (Burst b) = ⊥
ReadsBack (Fixed f) = ⊥
ReadsBack (Length l) = (l.fill ≡ true) × (length l.sync ≤ field_begin l.place) × (reach l.place ≤ l.discard)
ReadsBack (Terminated t) =
    (t.write ≡ t.read) × (t.strip ≡ true) × (((t.fill ≡ true) × (length t.sync ≤ t.discard)) ⊎ ((t.sync ≡ []) × (t.discard ≡ 0)))
ReadsBack (Preidentified p) = Unit {0}

-- what has a spelling in a head
pub record FitsHeading (h : Heading) : Type 0 where
  pub seconds : h.time.seconds < 2 ^ 32
  pub micros : h.time.micros < 2 ^ 32
  pub target : length h.target < 256
  pub packet : length h.packet < 256

-- The cut of a spelling that is not refused is one frame, with the bytes that were written.
abbrev pub SpellingsAreRead : Type 0
SpellingsAreRead = (s : SpecData) (h : Heading) (bytes frame : List ℕ) → IsTrue (is_sound_spec s) → ReadsBack s
    → FitsHeading h → AreBytes (sync_of s) → AreBytes bytes → AreBytes frame
    → refusal s h bytes ≡ None → IsSpelling s h bytes frame → IsCut (framing_of s) frame (single (output_for s h bytes))

-- Bytes that are not refused have one spelling.
abbrev pub OneSpelling : Type 0
OneSpelling = (s : SpecData) (h : Heading) (bytes one other : List ℕ) → IsTrue (is_sound_spec s) → refusal s h bytes ≡ None
    → IsSpelling s h bytes one → IsSpelling s h bytes other → one ≡ other

-- A head that was written is read again, whatever follows it, and it ends where it was written to.
pub record HeadIsRead (flagged stored : Bool) (h : HeadData) (after : List ℕ) : Type 0 where
  pub flags : has_wrong_flags flagged (laid_head flagged stored h ++ after) ≡ false
  pub whole : has_laid flagged (laid_head flagged stored h ++ after) ≡ true
  pub head : laid_of flagged (laid_head flagged stored h ++ after) ≡ h
  pub stored_is : stored_at flagged (laid_head flagged stored h ++ after) ≡ (flagged && stored)
  pub end : laid_end flagged (laid_head flagged stored h ++ after) ≡ length (laid_head flagged stored h)

abbrev pub HeadsAreRead : Type 0
HeadsAreRead = (flagged stored : Bool) (h : HeadData) (after : List ℕ) → FitsHead h → HeadIsRead flagged stored h after
