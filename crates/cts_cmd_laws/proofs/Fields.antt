-- Each field can be written.
use Rattle.std.proofs.Common.{◌≡◌, ℕ, ℤ, pos, ◌+◌, ◌-◌, ◌/◌, ◌^◌, ◌≤◌, ◌<◌, Bool, true, false, List, ◌++◌, length, take, drop, inl, inr, refl, ap, ◌∙◌, arith, unsigned_abs}
use Rattle.std.specs.Prelude.{int_le}
use Rattle.std.specs.Int.{is_negative}
use Rattle.std.proofs.lemmas.Bool.{cases_lt}
use Rattle.std.proofs.lemmas.Bool.Decides.{nat_tests}
use Rattle.std.proofs.lemmas.List.{length-append, length-drop, length-take-le, take_all}
use Rattle.cts_bits.specs.declared.place.Place.{Place}
use Rattle.cts_bits.specs.Fields.{KeepsOtherBits, field_at, reach}
use Rattle.cts_bits.specs.Places.{IsBeforeStart, is_bad_size, last_place, span}
use Rattle.cts_bits.specs.Windows.{number_in, replaced, tail_of}
use Rattle.cts_bits.proofs.Runs.{length-window, span_le_reach, window}
use Rattle.cts_bits.proofs.Turns.{number_in-lt}
use Rattle.cts_bits.proofs.Writes.{IsWritten, after, bit-after, field-after, fits_window, length-after}
use Rattle.cts_def.specs.declared.item_kind.Preset.{Preset}
use Rattle.cts_def.specs.declared.item_kind.Preset.TheVariants.{Whole, Raw}
use Rattle.cts_def.specs.Items.{ItemData, is_to_the_end, span_of}
use Rattle.cts_def.specs.Spans.{bytes_needed, is_misplaced, is_number, is_signed, is_spelled}
use Rattle.cts_def.proofs.Lying.{lies_where_needed}
use Rattle.cts_def.proofs.NoPlace.{refused}
use Rattle.cts_cmd.specs.Builds.{AreBytes, Writes}
use Rattle.cts_cmd.proofs.OneCommand.{number_of}
use Rattle.cts_cmd_laws.proofs.Bytes.{bytes_both, bytes_drop, bytes_take, make_number}
use Rattle.cts_cmd_laws.proofs.Spelled.{stands_as}

-- ---- where a number lies

-- What a number keeps that has a place.
pub record HasPlace (i : ItemData) : Type 0 where
  pub positive : int_le i.size (pos 0) ≡ false
  pub some : 1 ≤ unsigned_abs i.size
  pub most : unsigned_abs i.size ≤ 64
  pub near : unsigned_abs i.offset + unsigned_abs i.size ≤ last_place
  pub after_start : IsBeforeStart i.order (unsigned_abs i.offset) (unsigned_abs i.size) → ⊥

none_true : (b : Bool) → (b ≡ true → ⊥) → b ≡ false
none_true true h = absurd (h refl)
none_true false h = refl

some_bits : (offset bits : ℕ) → is_bad_size offset bits ≡ false → 1 ≤ bits
some_bits offset bits e = grind (arith, nat_tests)

few_bits : (offset bits : ℕ) → is_bad_size offset bits ≡ false → bits ≤ 64
few_bits offset bits e = grind (arith, nat_tests)

near_bits : (offset bits : ℕ) → is_bad_size offset bits ≡ false → offset + bits ≤ last_place
near_bits offset bits e = grind (arith, nat_tests)

never : (b : Bool) → b ≡ true → b ≡ false → ⊥
never b t f = cc

pub has_place : (i : ItemData) → is_number i.kind ≡ true → is_negative i.offset ≡ false → is_misplaced (span_of i) ≡ false → HasPlace i
has_place i number start placed =
    let not_bad : is_bad_size (unsigned_abs i.offset) (unsigned_abs i.size) ≡ false =
    none_true (is_bad_size (unsigned_abs i.offset) (unsigned_abs i.size)) (λ h. never (is_misplaced (span_of i)) (refused (span_of i) number start (inr (inl h))) placed) in
    record {
      positive = none_true (int_le i.size (pos 0)) (λ h. never (is_misplaced (span_of i)) (refused (span_of i) number start (inl h)) placed);
      some = some_bits (unsigned_abs i.offset) (unsigned_abs i.size) not_bad;
      most = few_bits (unsigned_abs i.offset) (unsigned_abs i.size) not_bad;
      near = near_bits (unsigned_abs i.offset) (unsigned_abs i.size) not_bad;
      after_start = λ h. never (is_misplaced (span_of i)) (refused (span_of i) number start (inr (inr h))) placed;
    }

abbrev place_in : (i : ItemData) → HasPlace i → Place
place_in i h = record {
  offset = unsigned_abs i.offset;
  bits = unsigned_abs i.size;
  order = i.order;
  some_bits = h.some;
  at_most_64 = h.most;
  within_limit = h.near;
  after_start = h.after_start;
}

-- ---- a number in a field

-- Bytes that have the value in the field, and all other bits as they were.
record HasValue (p : Place) (value : ℕ) (old : List ℕ) : Type 0 where
  new : List ℕ
  field : field_at p.order p.offset p.bits new ≡ value
  others : KeepsOtherBits p old new
  bytes : AreBytes new

value_written : (p : Place) (value : ℕ) (old : List ℕ) → reach p ≤ length old → value < 2 ^ p.bits → AreBytes old → HasValue p value old
value_written p value old fits small all =
    let front = span_le_reach p.order p.offset p.bits p.some_bits p.after_start in
    let first : ℕ = reach p - span p.offset p.bits in
    let xs : List ℕ = window p.order p.offset p.bits old in
    let len : length xs ≡ span p.offset p.bits = length-window p.order p.offset p.bits old front fits in
    let was : AreBytes xs = bytes_take (reach p - first) (drop first old) (bytes_drop first old all) in
    let number = fits_window p.order p.offset p.bits value (number_in p.order xs) xs p.some_bits small len (number_in-lt p.order xs was) in
    let made = make_number p.order (length xs) (replaced (number_in p.order xs) (tail_of p.offset p.bits) p.bits value) number in
    let w : IsWritten p.order p.offset p.bits value old made.them = record {
      some = p.some_bits;
      after_start = p.after_start;
      fits = fits;
      spelled = small;
      old_bytes = was;
      new_bytes = made.bytes;
      len = made.count ∙ len;
      number = made.number;
    } in
    record {
      new = after p.order p.offset p.bits old made.them;
      field = field-after p.order p.offset p.bits value old made.them w;
      others = record {
        len = length-after p.order p.offset p.bits value old made.them w;
        others = λ k none. bit-after p.order p.offset p.bits value old made.them w k (λ j lt e. none (j, lt, e));
      };
      bytes = bytes_both (take first old) (made.them ++ drop (span p.offset p.bits) (drop first old)) (bytes_take first old all)
          (bytes_both made.them (drop (span p.offset p.bits) (drop first old)) made.bytes (bytes_drop (span p.offset p.bits) (drop first old) (bytes_drop first old all)));
    }

-- ---- an item

-- What a field can hold: a number that is spelled in its bits, or bytes.
abbrev pub CanHold : ItemData → Preset → Type 0
CanHold i (Whole z) = (is_number i.kind ≡ true) × (is_spelled i.kind (unsigned_abs i.size) z ≡ true)
CanHold i (Raw bytes) = AreBytes bytes

-- Bytes in which the field holds it.
pub record CanBeWritten (i : ItemData) (held : Preset) (old : List ℕ) : Type 0 where
  pub new : List ℕ
  pub writes : Writes i held old new
  pub bytes : AreBytes new
  pub long : length old ≤ length new

number_written : (i : ItemData) (z : ℤ) (old : List ℕ) → is_number i.kind ≡ true → is_spelled i.kind (unsigned_abs i.size) z ≡ true → is_negative i.offset ≡ false → is_misplaced (span_of i) ≡ false
    → bytes_needed (span_of i) ≤ length old → AreBytes old → CanBeWritten i (Whole z) old
number_written i z old number spelled start placed room all =
    let h = has_place i number start placed in
    let code = stands_as i.kind (unsigned_abs i.size) z number h.some spelled in
    let within = ((lies_where_needed (span_of i) (length old)).1 room).number start h.positive number in
    let w = value_written (place_in i h) code.code old within code.small all in
    record {
      new = w.new;
      writes = record {
        place = place_in i h;
        there = refl;
        within = within;
        value = ap (λ (n : ℕ). number_of (is_signed i.kind) (unsigned_abs i.size) n) w.field ∙ code.means;
        others = w.others;
        bytes = w.bytes;
      };
      bytes = w.bytes;
      long = let same = w.others.len in omega (arith, same);
    }

abbrev put : ℕ → List ℕ → List ℕ → List ℕ
put at bytes old = take at old ++ (bytes ++ drop (at + length bytes) old)

long_by : (n l b d : ℕ) → l ≡ n → d ≡ l → n ≤ d
long_by n l b d a c = omega (arith, a, c)

put_long : (at : ℕ) (bytes old : List ℕ) → length old ≤ length (put at bytes old)
put_long at bytes old =
    let a = length-append (take at old) (bytes ++ drop (at + length bytes) old) in
    let b = length-append bytes (drop (at + length bytes) old) in
    let c = length-drop (at + length bytes) old in
    elim (cases_lt at (length old)) [
      | inl less ↦ let d = length-take-le at old (omega (arith, less)) in omega (arith, a, b, c, d)
      | inr more ↦ let d = ap (λ (x : List ℕ). length x) (take_all at old more) in omega (arith, a, d)
    ]

text_by : (end : Bool) (i : ItemData) (bytes old : List ℕ) → is_to_the_end i ≡ end → AreBytes bytes → AreBytes old → CanBeWritten i (Raw bytes) old
text_by true i bytes old end some all =
    let both = bytes_both old bytes all some in
    let len = length-append old bytes in
    record { new = old ++ bytes; writes = (rw end refl, both); bytes = both; long = omega (arith, len) }
text_by false i bytes old end some all =
    let at = unsigned_abs i.offset / 8 in
    let both = bytes_both (take at old) (bytes ++ drop (at + length bytes) old) (bytes_take at old all) (bytes_both bytes (drop (at + length bytes) old) some (bytes_drop (at + length bytes) old all)) in
    record { new = put at bytes old; writes = (rw end refl, both); bytes = both; long = put_long at bytes old }

pub item_written : (i : ItemData) (held : Preset) (old : List ℕ) → CanHold i held → is_negative i.offset ≡ false → is_misplaced (span_of i) ≡ false → bytes_needed (span_of i) ≤ length old → AreBytes old
    → CanBeWritten i held old
item_written i (Whole z) old can start placed room all = number_written i z old can.0 can.1 start placed room all
item_written i (Raw bytes) old can start placed room all = text_by (is_to_the_end i) i bytes old refl can all
