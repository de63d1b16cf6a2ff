-- What frames state that begin as packets of known length do.
use Rattle.std.proofs.Common.{◌≡◌, ◌≤◌, false, ◌++◌, length, take, refl, arith, length-append}
use Rattle.std.specs.Prelude.{nat_lt}
use Rattle.std.proofs.lemmas.List.{take-append-le}
use Rattle.cts_def.specs.Protocols.{FixedData}
use Rattle.cts_framing.specs.Stating.{IsSteady}
use Rattle.cts_framing.specs.Rows.{decided_at, first_start, start_states, fixed_states}
use Rattle.cts_framing.proofs.Fronts.{not_lt_tells, not_lt_test}
use Rattle.cts_framing.proofs.LengthSteady.{guard_open}

pub fixed_steady : (f : FixedData) → IsSteady (fixed_states f)
fixed_steady f u y h =
    let there : nat_lt (length u) (decided_at f) ≡ false = guard_open (nat_lt (length u) (decided_at f)) (start_states f (first_start f (take (decided_at f) u))) h in
    let enough : decided_at f ≤ length u = not_lt_tells (length u) (decided_at f) there in
    let more : nat_lt (length (u ++ y)) (decided_at f) ≡ false = not_lt_test (length (u ++ y)) (decided_at f) (omega (arith, enough, length-append u y)) in
    let same : take (decided_at f) (u ++ y) ≡ take (decided_at f) u = take-append-le (decided_at f) u y enough in
    rw (there, more, same) refl
