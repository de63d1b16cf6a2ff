-- The field of a protocol that a site may have keeps the rules of a place.
use Rattle.std.proofs.Common.{◌≡◌, ℕ, ◌+◌, ◌≤◌, Bool, true, false, not, refl, ◌&&◌, ◌||◌, arith}
use Rattle.std.specs.Prelude.{nat_le, nat_lt, ◌==◌, IsTrue}
use Rattle.std.proofs.lemmas.Bool.Decides.{nat_tests}
use Rattle.cts_bits.specs.Places.{is_bad_size, is_before_start, last_place}
use Rattle.cts_def.specs.Protocols.{LengthData, Length, is_sound_spec, is_within_frame, is_pattern}
use Rattle.cts_def.specs.Starts.{PlaceData, is_place, place_data}
use Rattle.cts_bits.specs.declared.place.Place.{Place}
use Rattle.cts_framing.proofs.Fronts.{and_tells, not_lt_tells}
use Rattle.cts_framing.proofs.LengthSteady.{or_tells}
use Rattle.cts_encode.proofs.AgainBytes.{IsPlace}

not_tells : (b : Bool) → not b ≡ true → b ≡ false
not_tells true h = cc
not_tells false h = refl

not_zero : (n : ℕ) → (n == 0) ≡ false → 1 ≤ n
not_zero n h = grind (arith, nat_tests)

not_both : (b : Bool) → b ≡ false → b ≡ true → ⊥
not_both true h k = cc
not_both false h k = cc

place_rules : (p : PlaceData) → is_place p ≡ true → IsPlace p
place_rules p h =
    let a = or_tells (is_bad_size p.offset p.bits) (is_before_start p.order p.offset p.bits) (not_tells _ h) in
    let b = or_tells (p.bits == 0 || nat_lt 64 p.bits) (nat_lt last_place (p.offset + p.bits)) a.0 in
    let c = or_tells (p.bits == 0) (nat_lt 64 p.bits) b.0 in
    record { some = not_zero p.bits c.0; after = not_both (is_before_start p.order p.offset p.bits) a.1 }

-- the place itself
the_place : (p : PlaceData) → is_place p ≡ true → (q : Place) × (place_data q ≡ p)
the_place p h =
    let a = or_tells (is_bad_size p.offset p.bits) (is_before_start p.order p.offset p.bits) (not_tells _ h) in
    let b = or_tells (p.bits == 0 || nat_lt 64 p.bits) (nat_lt last_place (p.offset + p.bits)) a.0 in
    let c = or_tells (p.bits == 0) (nat_lt 64 p.bits) b.0 in
    let q : Place = record {
      offset = p.offset;
      bits = p.bits;
      order = p.order;
      some_bits = not_zero p.bits c.0;
      at_most_64 = not_lt_tells 64 p.bits c.1;
      within_limit = not_lt_tells last_place (p.offset + p.bits) b.1;
      after_start = not_both (is_before_start p.order p.offset p.bits) a.1;
    } in
    (q, refl)

is_length_place : (l : LengthData) → IsTrue (is_sound_spec (Length l)) → is_place l.place ≡ true
is_length_place l h =
    let a = and_tells (is_place l.place && nat_le 1 l.per_count && nat_le l.per_count 65535 && is_within_frame l.discard) (is_pattern l.sync) h in
    let b = and_tells (is_place l.place && nat_le 1 l.per_count && nat_le l.per_count 65535) (is_within_frame l.discard) a.0 in
    let c = and_tells (is_place l.place && nat_le 1 l.per_count) (nat_le l.per_count 65535) b.0 in
    (and_tells (is_place l.place) (nat_le 1 l.per_count) c.0).0

pub length_place_itself : (l : LengthData) → IsTrue (is_sound_spec (Length l)) → (q : Place) × (place_data q ≡ l.place)
length_place_itself l h = the_place l.place (is_length_place l h)

pub length_place : (l : LengthData) → IsTrue (is_sound_spec (Length l)) → IsPlace l.place
length_place l h = place_rules l.place (is_length_place l h)
