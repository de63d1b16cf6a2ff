-- Where the items of a packet lie.
use Rattle.std.proofs.Common.{◌≡◌, ℕ, ℤ, pos, negsuc, ◌+◌, ◌-◌, ◌*◌, ◌/◌, ◌%◌, ◌≤◌, Bool, true, false, not, ◌&&◌, ◌||◌, ◌==◌, nat_lt, int_le, unsigned_abs, refl, sym, ap, ◌∙◌, arith, inl, inr, if◌then◌else◌}
use Rattle.std.specs.Int.{is_negative}
use Rattle.std.proofs.lemmas.Bool.{and_parts, false≢true, or_parts, cases_Bool}
use Rattle.std.proofs.lemmas.Bool.Decides.{nat_tests}
use Rattle.cts_bits.specs.declared.order.Order.{Order}
use Rattle.cts_bits.specs.declared.order.Order.TheVariants.{Big, Little}
use Rattle.cts_bits.specs.Places.{is_bad_size, is_before_start, is_refused, is_whole, reach_of, span}
use Rattle.cts_def.specs.declared.item_kind.ItemKind.{ItemKind}
use Rattle.cts_def.specs.declared.span.Span.{Span}
use Rattle.cts_def.specs.Spans.{bytes_needed, ends_too_far, has_no_field, is_bad_from_end, is_little, is_little_bits, is_misplaced, is_number, is_refused_number, is_split_text, is_text_past_end, is_too_far}
use Rattle.cts_def.proofs.NoPlace.{refused}
use Rattle.cts_conv.proofs.Windows.{HasField}

-- where a span begins among so many bits
abbrev pub begin_at : ℕ → Span → ℕ
begin_at bits s = if is_negative s.offset then bits - unsigned_abs s.offset else unsigned_abs s.offset

small_size : (size : ℤ) → int_le size (pos 0) ≡ false → 1 ≤ unsigned_abs size
small_size (pos n) e = grind (arith, nat_tests)
small_size (negsuc n) e = absurd cc

after_true : (a x : Bool) → a ≡ true → a && x ≡ false → x ≡ false
after_true true x p h = h
after_true false x p h = absurd cc

small_bits : (offset bits : ℕ) → is_bad_size offset bits ≡ false → bits ≤ 64
small_bits offset bits e = grind (arith, nat_tests)

small_field : (s : Span) (b : Bool) → is_negative s.offset ≡ b → has_no_field s ≡ false → unsigned_abs s.size ≤ 64
small_field s true e h = let fine : is_bad_size 0 (unsigned_abs s.size) ≡ false = rw e at h in small_bits 0 (unsigned_abs s.size) fine
small_field s false e h =
    let fine : is_refused s.order (unsigned_abs s.offset) (unsigned_abs s.size) ≡ false = rw e at h in
    let parts = or_parts (is_bad_size (unsigned_abs s.offset) (unsigned_abs s.size)) (is_before_start s.order (unsigned_abs s.offset) (unsigned_abs s.size)) fine in
    small_bits (unsigned_abs s.offset) (unsigned_abs s.size) parts.0

-- what a number that is not misplaced keeps
record IsPlacedNumber (s : Span) : Type 0 where
  some : int_le s.size (pos 0) ≡ false
  most : unsigned_abs s.size ≤ 64
  end : is_bad_from_end s ≡ false

placed_number : (s : Span) → is_number s.kind ≡ true → is_misplaced s ≡ false → IsPlacedNumber s
placed_number s number placed =
    let a = or_parts (is_too_far s) (is_refused_number s || (is_bad_from_end s || (is_split_text s || (is_text_past_end s || (ends_too_far s || false))))) placed in
    let b = or_parts (is_refused_number s) (is_bad_from_end s || (is_split_text s || (is_text_past_end s || (ends_too_far s || false)))) a.1 in
    let c = or_parts (is_bad_from_end s) (is_split_text s || (is_text_past_end s || (ends_too_far s || false))) b.1 in
    let d = or_parts (int_le s.size (pos 0)) (has_no_field s) (after_true (is_number s.kind) (int_le s.size (pos 0) || has_no_field s) number b.0) in
    record { some = d.0; most = small_field s (is_negative s.offset) refl d.1; end = c.0 }

at_most : (least n : ℕ) → nat_lt least n ≡ false → n ≤ least
at_most least n h = grind (arith, nat_tests)

-- ---- numbers that are counted from the start

reach_needed : (kind : ItemKind) (o : Order) (offset bits : ℕ) → is_number kind ≡ true
    → reach_of o offset bits ≤ ((if is_number kind && is_little o && not (is_whole offset bits) then 8 * (offset / 8 + 1) else offset + bits) + 7) / 8
reach_needed kind Big offset bits number = rw number (omega arith)
reach_needed kind Little offset bits number = elim (cases_Bool (is_whole offset bits)) [
  | inl e ↦ rw (number, e) (omega arith)
  | inr e ↦ rw (number, e) (omega arith)
]

not_negative : (size : ℤ) → int_le size (pos 0) ≡ false → is_negative size ≡ false
not_negative (pos n) e = grind (arith, nat_tests)
not_negative (negsuc n) e = absurd cc

from_start : (s : Span) (total : ℕ) → is_number s.kind ≡ true → is_misplaced s ≡ false → is_negative s.offset ≡ false → bytes_needed s ≤ total
    → HasField s.order (unsigned_abs s.offset) (unsigned_abs s.size) total
from_start s total number placed start needed =
    let f = placed_number s number placed in
    let positive = not_negative s.size f.some in
    let reached = reach_needed s.kind s.order (unsigned_abs s.offset) (unsigned_abs s.size) number in
    let bytes = rw (start, positive, f.some) at needed in
    record {
      some = small_size s.size f.some;
      most = f.most;
      start = λ h. let bad = refused s number start (inr (inr h)) in let no : true ≡ false = sym bad ∙ placed in cc;
      inside = omega arith;
    }

-- ---- numbers that are counted from the end

whole_at : (offset begin bits : ℕ) → offset % 8 ≡ begin % 8 → is_whole begin bits ≡ is_whole offset bits
whole_at offset begin bits e = rw e refl

end_field : (kind : ItemKind) (o : Order) (offset bits total : ℕ) → is_number kind ≡ true → (is_number kind && is_little o && not (is_whole offset bits)) ≡ false
    → offset % 8 ≡ 0 → 1 ≤ bits → bits ≤ 64 → bits ≤ offset → offset ≤ 8 * total → HasField o (8 * total - offset) bits total
end_field kind Big offset bits total number no_bits even some most inside far =
    record { some = some; most = most; start = λ h. false≢true h; inside = omega arith }
end_field kind Little offset bits total number no_bits even some most inside far =
    let w : not (is_whole offset bits) ≡ false = rw number at no_bits in
    let is : is_whole offset bits ≡ true = whole_from (is_whole offset bits) w in
    let begin : is_whole (8 * total - offset) bits ≡ true = whole_at offset (8 * total - offset) bits (omega arith) ∙ is in
    record { some = some; most = most; start = λ h. false≢true (sym (ap not begin) ∙ (and_parts (not (is_whole (8 * total - offset) bits)) (nat_lt ((8 * total - offset) / 8 + 1) (span (8 * total - offset) bits)) h).0); inside = rw begin (omega arith) }
  where
    whole_from : (b : Bool) → not b ≡ false → b ≡ true
    whole_from true e = refl
    whole_from false e = cc

is_even : (b : ℕ) → not (b % 8 == 0) ≡ false → b % 8 ≡ 0
is_even b e = grind (arith, nat_tests)

-- what a number keeps that is counted from the end
record IsWholeFromEnd (s : Span) : Type 0 where
  even : unsigned_abs s.offset % 8 ≡ 0
  inside : unsigned_abs s.size ≤ unsigned_abs s.offset
  no_bits : is_little_bits s ≡ false

both_true : (a b x : Bool) → a ≡ true → b ≡ true → (a && b) && x ≡ false → x ≡ false
both_true true true x p q h = h
both_true true false x p q h = absurd cc
both_true false b x p q h = absurd cc

whole_from_end : (s : Span) → is_number s.kind ≡ true → is_negative s.offset ≡ true → is_bad_from_end s ≡ false → IsWholeFromEnd s
whole_from_end s number end fine =
    let bad = both_true (is_number s.kind) (is_negative s.offset) (not (unsigned_abs s.offset % 8 == 0) || nat_lt (unsigned_abs s.offset) (unsigned_abs s.size) || is_little_bits s) number end fine in
    let a = or_parts (not (unsigned_abs s.offset % 8 == 0) || nat_lt (unsigned_abs s.offset) (unsigned_abs s.size)) (is_little_bits s) bad in
    let b = or_parts (not (unsigned_abs s.offset % 8 == 0)) (nat_lt (unsigned_abs s.offset) (unsigned_abs s.size)) a.0 in
    record { even = is_even (unsigned_abs s.offset) b.0; inside = at_most (unsigned_abs s.offset) (unsigned_abs s.size) b.1; no_bits = a.1 }

from_end : (s : Span) (total : ℕ) → is_number s.kind ≡ true → is_misplaced s ≡ false → is_negative s.offset ≡ true → bytes_needed s ≤ total
    → HasField s.order (8 * total - unsigned_abs s.offset) (unsigned_abs s.size) total
from_end s total number placed end needed =
    let f = placed_number s number placed in
    let a = whole_from_end s number end f.end in
    let bytes : (unsigned_abs s.offset + 7) / 8 ≤ total = rw end at needed in
    end_field s.kind s.order (unsigned_abs s.offset) (unsigned_abs s.size) total number a.no_bits a.even (small_size s.size f.some) f.most a.inside (omega arith)

number_field_by : (s : Span) (total : ℕ) (b : Bool) → is_negative s.offset ≡ b → is_number s.kind ≡ true → is_misplaced s ≡ false → bytes_needed s ≤ total
    → HasField s.order (begin_at (8 * total) s) (unsigned_abs s.size) total
number_field_by s total true e number placed needed = rw e (from_end s total number placed e needed)
number_field_by s total false e number placed needed = rw e (from_start s total number placed e needed)

-- a number has a field in as many bytes as it needs
pub number_field : (s : Span) (total : ℕ) → is_number s.kind ≡ true → is_misplaced s ≡ false → bytes_needed s ≤ total
    → HasField s.order (begin_at (8 * total) s) (unsigned_abs s.size) total
number_field s total number placed needed = number_field_by s total (is_negative s.offset) refl number placed needed

-- where it begins within a byte
within_by : (s : Span) (total : ℕ) (b : Bool) → is_negative s.offset ≡ b → is_number s.kind ≡ true → is_misplaced s ≡ false → bytes_needed s ≤ total
    → begin_at (8 * total) s % 8 ≡ unsigned_abs s.offset % 8
within_by s total true e number placed needed =
    let f = placed_number s number placed in
    let even = (whole_from_end s number e f.end).even in
    let bytes : (unsigned_abs s.offset + 7) / 8 ≤ total = rw e at needed in
    rw e (omega arith)
within_by s total false e number placed needed = rw e refl

pub begin_within : (s : Span) (total : ℕ) → is_number s.kind ≡ true → is_misplaced s ≡ false → bytes_needed s ≤ total
    → begin_at (8 * total) s % 8 ≡ unsigned_abs s.offset % 8
begin_within s total number placed needed = within_by s total (is_negative s.offset) refl number placed needed

pub number_size : (s : Span) → is_number s.kind ≡ true → is_misplaced s ≡ false → unsigned_abs s.size ≤ 64
number_size s number placed = let f = placed_number s number placed in f.most
