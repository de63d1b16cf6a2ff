-- How bytes are put into a frame, and which bytes are refused.
use Rattle.std.specs.Prelude.{◌≡◌, ◌<◌, ℕ, ◌/◌, ◌%◌, ◌^◌, ℤ, pos, ◌-ℤ◌, int_lt, Bool, true, false, ◌&&◌, ◌||◌, ◌==◌, nat_le, nat_lt, List, [], ◌++◌}
use Rattle.std.specs.Prelude.{length, drop, replicate, slice_index, Option, Some, None, Result, Ok, Err, unsigned_abs, if◌then◌else◌}
use Rattle.cts_bits.specs.Bits.{bits_of}
use Rattle.cts_bits.specs.Fields.{bit_place_at}
use Rattle.cts_def.specs.Protocols.{LengthData, PreidentifiedData, SpecData, Burst, Fixed, Length, Terminated, Preidentified}
use Rattle.cts_def.specs.Starts.{PlaceData}
use Rattle.cts_def.specs.declared.label.Label.{Label}
use Rattle.cts_framing.specs.Framing.{Heading}
use Rattle.cts_framing.specs.Heads.{AreBytes, HeadData}
use Rattle.cts_framing.specs.Layouts.{has_flags, laid_head}
use Rattle.cts_framing.specs.Patterns.{first_place}
use Rattle.cts_def.specs.Most.{frame_limit}
use Rattle.cts_framing.specs.Rows.{is_over, reach, field}
use Rattle.cts_encode.specs.declared.encode_fault.EncodeFault.{EncodeFault}
use Rattle.cts_encode.specs.declared.encode_fault.EncodeFault.TheVariants.{HoldsTermination, NoPlace, LengthTooLarge, Memory}

-- ---- the four steps of protocols other than PREIDENTIFIED

-- how many zero bytes are put before
abbrev pub discard_of : SpecData → ℕ
discard_of (Burst b) = b.discard
discard_of (Fixed f) = f.discard
discard_of (Length l) = l.discard
discard_of (Terminated t) = t.discard
discard_of (Preidentified p) = 0

abbrev pub sync_of : SpecData → List ℕ
sync_of (Burst b) = b.sync
sync_of (Fixed f) = f.sync
sync_of (Length l) = l.sync
sync_of (Terminated t) = t.sync
sync_of (Preidentified p) = p.sync

-- whether more than the termination is written
abbrev pub fills : SpecData → Bool
fills (Burst b) = b.fill
fills (Fixed f) = f.fill
fills (Length l) = l.fill
fills (Terminated t) = t.fill
fills (Preidentified p) = false

-- what is put after the bytes
abbrev pub termination_of : SpecData → List ℕ
termination_of (Burst b) = []
termination_of (Fixed f) = []
termination_of (Length l) = []
termination_of (Terminated t) = t.write
termination_of (Preidentified p) = []

-- the first step: zero bytes before the bytes
abbrev pub padded : SpecData → List ℕ → List ℕ
padded s b = if fills s then replicate (discard_of s) 0 ++ b else b

-- the second step: the termination after them
abbrev pub ended : SpecData → List ℕ → List ℕ
ended s b = padded s b ++ termination_of s

-- a pattern over the first bytes
abbrev pub over_first : List ℕ → List ℕ → List ℕ
over_first sync frame = sync ++ drop (length sync) frame

-- the third step: the sync pattern over the first bytes
abbrev pub synced : SpecData → List ℕ → List ℕ
synced s b = if fills s then over_first (sync_of s) (ended s b) else ended s b

-- The count of a frame of `total` bytes, where count * per_count + value_offset is `total`: none where none is.
abbrev pub count_by : ℤ → ℕ → ℕ → Option ℕ
count_by value_offset per_count total =
    let counted = pos total -ℤ value_offset in
    if int_lt counted (pos 0) then None
    else if unsigned_abs counted % per_count == 0 then Some (unsigned_abs counted / per_count)
    else None

abbrev pub count_of : LengthData → ℕ → Option ℕ
count_of l total = count_by l.value_offset l.per_count total

-- the fourth step: the bytes with the number in the field, all other bits as they were
pub record HasField (p : PlaceData) (number : ℕ) (old new : List ℕ) : Type 0 where
  pub bytes : AreBytes new
  pub len : length new ≡ length old
  pub value : field p new ≡ number
  pub others : (k : ℕ) → ((j : ℕ) → j < p.bits → k ≡ bit_place_at p.order p.offset p.bits j → ⊥) → slice_index (bits_of new) k ≡ slice_index (bits_of old) k

abbrev pub HasCount : LengthData → Option ℕ → List ℕ → List ℕ → Type 0
HasCount l None old new = ⊥
HasCount l (Some count) old new = HasField l.place count old new

-- ---- PREIDENTIFIED

abbrev pub heading_of : Label → Heading
heading_of l = record { time = l.time; target = l.target; packet = l.packet; stored = l.stored }

abbrev pub head_for : Heading → ℕ → HeadData
head_for h count = record { time = h.time; target = h.target; packet = h.packet; count = count }

-- the head with this count, with flags or without
abbrev pub head_in : Bool → Heading → ℕ → List ℕ
head_in flagged h count = laid_head flagged h.stored (head_for h count)

abbrev pub headed : PreidentifiedData → Heading → List ℕ → List ℕ
headed p h b = p.sync ++ (head_in (has_flags p.layout) h (length b) ++ b)

-- ---- the spelling

abbrev pub counts : LengthData → Bool → List ℕ → List ℕ → Type 0
counts l true old new = HasCount l (count_of l (length old)) old new
counts l false old new = new ≡ old

-- the frame is the spelling of the bytes b
abbrev pub IsSpelling : SpecData → Heading → List ℕ → List ℕ → Type 0
IsSpelling (Burst b) h bytes frame = frame ≡ synced (Burst b) bytes
IsSpelling (Fixed f) h bytes frame = frame ≡ synced (Fixed f) bytes
IsSpelling (Length l) h bytes frame = counts l l.fill (synced (Length l) bytes) frame
IsSpelling (Terminated t) h bytes frame = frame ≡ synced (Terminated t) bytes
IsSpelling (Preidentified p) h bytes frame = frame ≡ headed p h bytes

-- ---- refusals

abbrev pub is_before : Option ℕ → ℕ → Bool
is_before None n = false
is_before (Some k) n = nat_lt k n

-- a termination stands in a list before the one at its end
abbrev pub holds : List ℕ → List ℕ → Bool
holds t a = nat_le 1 (length t) && is_before (first_place t (a ++ t)) (length a)

abbrev pub holds_termination : SpecData → List ℕ → Bool
holds_termination s b = holds (termination_of s) (padded s b)

abbrev pub is_missing : Option ℕ → Bool
is_missing None = true
is_missing (Some n) = false

-- the field is past the end of a frame of `total` bytes, or no count states its length
abbrev pub has_no_count : LengthData → ℕ → Bool
has_no_count l total = nat_lt total (reach l.place) || is_missing (count_of l total)

abbrev pub lacks_count : SpecData → ℕ → Bool
lacks_count (Burst b) total = false
lacks_count (Fixed f) total = false
lacks_count (Length l) total = has_no_count l total
lacks_count (Terminated t) total = false
lacks_count (Preidentified p) total = false

abbrev pub no_place : SpecData → List ℕ → Bool
no_place s b = fills s && (nat_lt (length (ended s b)) (length (sync_of s)) || lacks_count s (length (ended s b)))

-- the count does not fit the field, or is above the greatest
abbrev pub is_large : LengthData → Option ℕ → Bool
is_large l None = false
is_large l (Some count) = nat_le (2 ^ l.place.bits) count || is_over l.max count

abbrev pub too_large : SpecData → Heading → List ℕ → Bool
too_large (Length l) h b = (l.fill && is_large l (count_of l (length (ended (Length l) b)))) || nat_lt frame_limit (length (ended (Length l) b))
too_large (Preidentified p) h b = nat_le (2 ^ 32) (length b) || is_over p.max (length b) || nat_lt frame_limit (length (headed p h b))
too_large (Burst d) h b = nat_lt frame_limit (length (ended (Burst d) b))
too_large (Fixed f) h b = nat_lt frame_limit (length (ended (Fixed f) b))
too_large (Terminated t) h b = nat_lt frame_limit (length (ended (Terminated t) b))

-- the refusal of the bytes, if they are refused: the first of three, in this order
abbrev pub refusal : SpecData → Heading → List ℕ → Option EncodeFault
refusal s h b =
    if holds_termination s b then Some HoldsTermination
    else if no_place s b then Some NoPlace
    else if too_large s h b then Some LengthTooLarge
    else None

-- ---- what encoding does

-- the spelling was put after the old bytes
abbrev pub Appends : SpecData → Heading → List ℕ → List ℕ → List ℕ → Type 0
Appends s h b old new = (frame : List ℕ) × (new ≡ old ++ frame) × IsSpelling s h b frame

-- An answer: the spelling was put after the old bytes, and no refusal stands; or the refusal that stands, or that no memory
-- was found, and nothing was put.
abbrev pub Encodes : SpecData → Heading → List ℕ → List ℕ → List ℕ → Result (Unit {0}) EncodeFault → Type 0
Encodes s h b old new (Ok u) = (refusal s h b ≡ None) × Appends s h b old new
Encodes s h b old new (Err Memory) = new ≡ old
Encodes s h b old new (Err HoldsTermination) = (refusal s h b ≡ Some HoldsTermination) × (new ≡ old)
Encodes s h b old new (Err NoPlace) = (refusal s h b ≡ Some NoPlace) × (new ≡ old)
Encodes s h b old new (Err LengthTooLarge) = (refusal s h b ≡ Some LengthTooLarge) × (new ≡ old)
