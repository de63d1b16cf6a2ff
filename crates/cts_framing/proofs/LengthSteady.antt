-- What frames state that state their length in a field.
use Rattle.std.proofs.Common.{◌≡◌, ℕ, ◌≤◌, Bool, true, false, ◌||◌, cond, ◌++◌, length, refl, ◌∙◌, ap, arith, length-append}
use Rattle.std.specs.Prelude.{ℤ, pos, negsuc, int_lt, nat_lt, nat_le, unsigned_abs}
use Rattle.cts_def.specs.Protocols.{LengthData}
use Rattle.cts_def.specs.declared.bad_cause.BadCause.{BadCause}
use Rattle.cts_def.specs.declared.bad_cause.BadCause.TheVariants.{TooLong, OverMax, Short}
use Rattle.cts_framing.specs.Stating.{Stated, Open, Long, Wrong, is_open, IsSteady}
use Rattle.cts_def.specs.Most.{frame_limit}
use Rattle.cts_framing.specs.Rows.{long_within, is_over, reach, field, length_by, is_short, field_states, length_states}
use Rattle.cts_framing.proofs.Fronts.{le_tells, not_lt_tells, not_lt_test, field_front}

pub guard_open : (b : Bool) (s : Stated) → is_open (cond b Open s) ≡ false → b ≡ false
guard_open true s h = cc
guard_open false s h = refl

pub guard_long : (b : Bool) (s : Stated) (n : ℕ) → cond b Open s ≡ Long n → (b ≡ false) × (s ≡ Long n)
guard_long true s n h = cc
guard_long false s n h = (refl, h)

pub wrong_or_long : (b : Bool) (c : BadCause) (s : Stated) (n : ℕ) → cond b (Wrong c) s ≡ Long n → (b ≡ false) × (s ≡ Long n)
wrong_or_long true c s n h = cc
wrong_or_long false c s n h = (refl, h)

within_by : (b : Bool) (m n : ℕ) → cond b (Long m) (Wrong TooLong) ≡ Long n → (b ≡ true) × (m ≡ n)
within_by true m n h = (refl, (cc))
within_by false m n h = cc

pub within_tells : (m n : ℕ) → long_within m ≡ Long n → (m ≡ n) × (n ≤ frame_limit)
within_tells m n h = let t = within_by (nat_le m frame_limit) m n h in (t.1, omega (arith, le_tells m frame_limit t.0, t.1))

pub or_tells : (a b : Bool) → (a || b) ≡ false → (a ≡ false) × (b ≡ false)
or_tells true b h = cc
or_tells false b h = (refl, h)

-- a number that is not below a number of bytes is one
not_below : (z : ℤ) (r : ℕ) → int_lt z (pos r) ≡ false → (z ≡ pos (unsigned_abs z)) × (r ≤ unsigned_abs z)
not_below (pos m) r h = (refl, not_lt_tells m r h)
not_below (negsuc m) r h = cc

-- what a field says of which a frame's length is stated
pub record FieldTells (l : LengthData) (f n : ℕ) : Type 0 where
  pub max : is_over l.max f ≡ false
  pub length_is : length_by l f ≡ pos n
  pub reaches : reach l.place ≤ n
  pub room : length l.sync ≤ n
  pub within : n ≤ frame_limit

pub field_tells : (l : LengthData) (f n : ℕ) → field_states l f ≡ Long n → FieldTells l f n
field_tells l f n h =
    let z = length_by l f in
    let over = wrong_or_long (is_over l.max f) (OverMax f) _ n h in
    let short = wrong_or_long (is_short l z) (Short z) _ n over.1 in
    let within = within_tells (unsigned_abs z) n short.1 in
    let both = or_tells (int_lt z (pos (reach l.place))) (int_lt z (pos (length l.sync))) short.0 in
    let r = not_below z (reach l.place) both.0 in
    let s = not_below z (length l.sync) both.1 in
    record { max = over.0; length_is = r.0 ∙ ap pos within.0; reaches = omega (arith, r.1, within.0); room = omega (arith, s.1, within.0); within = within.1 }

pub length_steady : (l : LengthData) → IsSteady (length_states l)
length_steady l u y h =
    let there : nat_lt (length u) (reach l.place) ≡ false = guard_open (nat_lt (length u) (reach l.place)) (field_states l (field l.place u)) h in
    let room : reach l.place ≤ length u = not_lt_tells (length u) (reach l.place) there in
    let more : nat_lt (length (u ++ y)) (reach l.place) ≡ false = not_lt_test (length (u ++ y)) (reach l.place) (omega (arith, room, length-append u y)) in
    let same : field l.place (u ++ y) ≡ field l.place u = field_front l.place.order l.place.offset l.place.bits u y room in
    rw (there, more, same) refl
