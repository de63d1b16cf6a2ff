-- What a length field says.
use Rattle.std.specs.Prelude.{◌≡◌, ℕ, ℤ, pos, int_lt, ◌||◌, unsigned_abs, Option, Result, Ok, Err, if◌then◌else◌}
use Rattle.cts_def.specs.declared.bad_cause.BadCause.{BadCause}
use Rattle.cts_def.specs.declared.bad_cause.BadCause.TheVariants.{Short, OverMax}
use Rattle.cts_framing.specs.Rows.{is_over, long_within}
use Rattle.cts_framing.specs.Stating.{Stated, Long, Wrong}

-- what a field that holds n states: a frame of z bytes, of which the field needs the first reach and the pattern the first
-- room
abbrev pub stated_as : Option ℕ → ℕ → ℕ → ℕ → ℤ → Stated
stated_as max reach room n z =
    if is_over max n then Wrong (OverMax n)
    else if int_lt z (pos reach) || int_lt z (pos room) then Wrong (Short z)
    else long_within (unsigned_abs z)

-- the length that is stated, or the error
abbrev pub Tells : Stated → Result ℕ BadCause → Type 0
Tells s (Ok n) = s ≡ Long n
Tells s (Err c) = s ≡ Wrong c
