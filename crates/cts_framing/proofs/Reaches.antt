-- A field reaches a byte.
use Rattle.std.proofs.Common.{◌≡◌, ℕ, ◌+◌, ◌/◌, ◌≤◌, Bool, true, false, not, ◌&&◌, ◌||◌, cond, refl, arith}
use Rattle.std.specs.Prelude.{nat_le, nat_lt, ◌==◌}
use Rattle.std.proofs.lemmas.Bool.Decides.{nat_tests}
use Rattle.cts_bits.specs.declared.order.Order.{Order}
use Rattle.cts_bits.specs.declared.order.Order.TheVariants.{Big, Little}
use Rattle.cts_bits.specs.Places.{reach_of, is_whole, is_bad_size, is_before_start, last_place}
use Rattle.cts_def.specs.Protocols.{LengthData, Length, is_sound_spec, is_within_frame, is_pattern}
use Rattle.cts_def.specs.Starts.{PlaceData, is_place}
use Rattle.cts_framing.specs.Rows.{reach}
use Rattle.cts_framing.proofs.Fronts.{and_tells}
use Rattle.cts_framing.proofs.LengthSteady.{or_tells}

whole_bits : (offset bits : ℕ) → is_whole offset bits ≡ true → 8 ≤ bits
whole_bits offset bits h = grind (arith, nat_tests)

little_some : (offset bits : ℕ) (b : Bool) → is_whole offset bits ≡ b → 1 ≤ cond b (offset / 8 + bits / 8) (offset / 8 + 1)
little_some offset bits true e = omega (arith, whole_bits offset bits e)
little_some offset bits false e = omega arith

reach_some : (o : Order) (offset bits : ℕ) → 1 ≤ bits → 1 ≤ reach_of o offset bits
reach_some Big offset bits h = omega (arith, h)
reach_some Little offset bits h = little_some offset bits (is_whole offset bits) refl

not_tells : (b : Bool) → not b ≡ true → b ≡ false
not_tells true h = cc
not_tells false h = refl

not_zero : (n : ℕ) → (n == 0) ≡ false → 1 ≤ n
not_zero n h = grind (arith, nat_tests)

place_some : (p : PlaceData) → is_place p ≡ true → 1 ≤ reach p
place_some p h =
    let a = or_tells (is_bad_size p.offset p.bits) (is_before_start p.order p.offset p.bits) (not_tells _ h) in
    let b = or_tells (p.bits == 0 || nat_lt 64 p.bits) (nat_lt last_place (p.offset + p.bits)) a.0 in
    let c = or_tells (p.bits == 0) (nat_lt 64 p.bits) b.0 in
    reach_some p.order p.offset p.bits (not_zero p.bits c.0)

pub length_reaches : (l : LengthData) → is_sound_spec (Length l) ≡ true → 1 ≤ reach l.place
length_reaches l h =
    let a = and_tells (is_place l.place && nat_le 1 l.per_count && nat_le l.per_count 65535 && is_within_frame l.discard) (is_pattern l.sync) h in
    let b = and_tells (is_place l.place && nat_le 1 l.per_count && nat_le l.per_count 65535) (is_within_frame l.discard) a.0 in
    let c = and_tells (is_place l.place && nat_le 1 l.per_count) (nat_le l.per_count 65535) b.0 in
    place_some l.place (and_tells (is_place l.place) (nat_le 1 l.per_count) c.0).0
