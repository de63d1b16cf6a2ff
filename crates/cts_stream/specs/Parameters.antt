-- The parameters of protocols, of which searches take those that they need.
use Rattle.std.specs.Prelude.{ℕ, ℤ, Bool, List, Option}
use Rattle.cts_def.specs.Protocols.{BurstData, LengthData, TerminatedData}
use Rattle.cts_def.specs.Starts.{PlaceData}

abbrev pub burst_data : ℕ → List ℕ → Bool → BurstData
burst_data discard sync fill = record { discard = discard; sync = sync; fill = fill }

abbrev pub length_data : PlaceData → ℤ → ℕ → ℕ → List ℕ → Option ℕ → Bool → LengthData
length_data place value_offset per_count discard sync max fill =
    record { place = place; value_offset = value_offset; per_count = per_count; discard = discard; sync = sync; max = max; fill = fill }

abbrev pub terminated_data : List ℕ → List ℕ → Bool → ℕ → List ℕ → Bool → TerminatedData
terminated_data write read strip discard sync fill =
    record { write = write; read = read; strip = strip; discard = discard; sync = sync; fill = fill }
