-- What the parts of encoding do.
use Rattle.std.specs.Prelude.{◌≡◌, ◌<◌, ℕ, ◌^◌, ℤ, nat_lt, ◌||◌, Bool, true, false, List, [], ◌++◌, length, Option, Some, Result, Ok, Err}
use Rattle.cts_def.specs.Protocols.{LengthData, SpecData, Terminated}
use Rattle.cts_def.specs.Starts.{PlaceData}
use Rattle.cts_def.specs.Most.{frame_limit}
use Rattle.cts_encode.specs.Spellings.{holds, count_of, has_no_count, is_large}
use Rattle.cts_encode.specs.declared.encode_fault.EncodeFault.{EncodeFault}
use Rattle.cts_encode.specs.declared.encode_fault.EncodeFault.TheVariants.{HoldsTermination, NoPlace, LengthTooLarge, Memory}

-- the bytes and the termination were put, or the bytes hold it
abbrev pub PutsEnded : List ℕ → List ℕ → List ℕ → List ℕ → Result (Unit {0}) EncodeFault → Type 0
PutsEnded a t old new (Ok u) = (holds t a ≡ false) × (new ≡ old ++ (a ++ t))
PutsEnded a t old new (Err Memory) = new ≡ old
PutsEnded a t old new (Err HoldsTermination) = (holds t a ≡ true) × (new ≡ old)
PutsEnded a t old new (Err NoPlace) = ⊥
PutsEnded a t old new (Err LengthTooLarge) = ⊥

-- the parameters of a protocol that puts a termination, a sync pattern and discarded bytes, and no count
abbrev pub plain_data : ℕ → List ℕ → List ℕ → Bool → SpecData
plain_data discard sync write fill = Terminated (record { write = write; read = []; strip = false; discard = discard; sync = sync; fill = fill })

-- the parameters of a protocol that puts a count
abbrev pub length_row : PlaceData → ℤ → ℕ → ℕ → List ℕ → Option ℕ → Bool → LengthData
length_row place value_offset per_count discard sync max fill =
    record { place = place; value_offset = value_offset; per_count = per_count; discard = discard; sync = sync; max = max; fill = fill }

-- a frame of `total` bytes has no place for the sync pattern, the field or its count
abbrev pub lacks_place : LengthData → ℕ → Bool
lacks_place l total = nat_lt total (length l.sync) || has_no_count l total

-- the count of a frame of `total` bytes, or why it has none
abbrev pub CountsFor : LengthData → ℕ → Result ℕ EncodeFault → Type 0
CountsFor l total (Ok count) =
    (lacks_place l total ≡ false) × (count_of l total ≡ Some count) × (is_large l (Some count) ≡ false) × (count < 2 ^ l.place.bits)
    × (nat_lt frame_limit total ≡ false)
CountsFor l total (Err NoPlace) = lacks_place l total ≡ true
CountsFor l total (Err LengthTooLarge) = (lacks_place l total ≡ false) × ((is_large l (count_of l total) || nat_lt frame_limit total) ≡ true)
CountsFor l total (Err HoldsTermination) = ⊥
CountsFor l total (Err Memory) = ⊥
