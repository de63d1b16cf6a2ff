-- What inner functions answer.
use Rattle.std.specs.Prelude.{ℕ, Bool, true, false, List, Result, Ok, Err}
use Rattle.cts_def.specs.Protocols.{FixedData}
use Rattle.cts_def.specs.Starts.{StartData}
use Rattle.cts_def.specs.declared.bad_cause.BadCause.{BadCause}
use Rattle.cts_framing.specs.Stating.{Stated, Long, Wrong}

-- the parameters of FIXED that are read
abbrev pub fixed_row : ℕ → ℕ → List ℕ → Bool → List StartData → FixedData
fixed_row min_id discard sync raise starts =
    record { min_id = min_id; discard = discard; sync = sync; telemetry = true; fill = false; raise = raise; starts = starts }

-- a length, or why there is none
abbrev pub stated_by : Result ℕ BadCause → Stated
stated_by (Ok n) = Long n
stated_by (Err c) = Wrong c
