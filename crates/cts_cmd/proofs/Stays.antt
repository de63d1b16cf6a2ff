-- What stands in the bits to which no later item is written.
use Rattle.std.proofs.Common.{◌≡◌, ℕ, ℤ, ◌+◌, ◌-◌, ◌*◌, ◌/◌, ◌%◌, ◌<◌, ◌≤◌, ◌⊎◌, Bool, true, false, List, [], ◌∷◌, ◌++◌, length, take, drop, get_or, refl, sym, ap, ◌∙◌, subst, arith, inl, inr}
use Rattle.std.specs.Prelude.{unsigned_abs}
use Rattle.std.specs.Int.{bit_at}
use Rattle.std.specs.Int.Digits.{number_from_digits}
use Rattle.std.proofs.lemmas.Bool.{cases_lt}
use Rattle.std.proofs.lemmas.List.{ext_get_or, get_or-append_right, get_or-drop, get_or-take, get_or_append_left, length-append, length-drop, length-take-le, take_all}
use Rattle.cts_bits.specs.declared.place.Place.{Place}
use Rattle.cts_bits.specs.Bits.{bits_of}
use Rattle.cts_bits.specs.Fields.{IsFieldBit, bit_place_at, field, field_at, reach}
use Rattle.cts_bits.proofs.BitLists.{get_or-bits_of}
use Rattle.cts_bits.proofs.FieldBits.{bit_place_within, bits_at, field_by_bits, get_or-bits_at, length-bits_at}
use Rattle.cts_bits.proofs.Runs.{span_le_reach}
use Rattle.cts_def.specs.declared.item_kind.Preset.{Preset}
use Rattle.cts_def.specs.declared.item_kind.Preset.TheVariants.{Whole, Raw}
use Rattle.cts_def.specs.Beginnings.{number_at}
use Rattle.cts_def.specs.Items.{ItemData, is_to_the_end}
use Rattle.cts_def.specs.Spans.{is_signed}
use Rattle.cts_def.specs.Starts.{PlaceData}
use Rattle.cts_cmd.specs.Builds.{Writes, WritesAll, WritesBytes, WritesNumber, place_of}
use Rattle.cts_cmd.specs.Laws.{IsLeftBy, IsWrittenBit, NumbersStand, OtherBitsStay}
use Rattle.cts_cmd.proofs.OneCommand.{number_of}

-- ---- bytes

abbrev put : ℕ → List ℕ → List ℕ → List ℕ
put at bytes old = take at old ++ (bytes ++ drop (at + length bytes) old)

front_long : (at m : ℕ) (old : List ℕ) → m < at → m < length old → (at < length old) ⊎ (length old ≤ at) → m < length (take at old)
front_long at m old below lt (inl less) = let e = length-take-le at old (omega (arith, less)) in omega (arith, e, below)
front_long at m old below lt (inr more) = let e = ap (λ (x : List ℕ). length x) (take_all at old more) in omega (arith, e, lt)

put_front : (at m : ℕ) (bytes old : List ℕ) → m < at → m < length old → get_or (put at bytes old) m 0 ≡ get_or old m 0
put_front at m bytes old below lt =
    get_or_append_left (take at old) (bytes ++ drop (at + length bytes) old) 0 m (front_long at m old below lt (cases_lt at (length old))) ∙ get_or-take at old m 0 below

put_after : (at m : ℕ) (bytes old : List ℕ) → at + length bytes ≤ m → m < length old → get_or (put at bytes old) m 0 ≡ get_or old m 0
put_after at m bytes old above lt =
    let front : length (take at old) ≡ at = length-take-le at old (omega (arith, above, lt)) in
    let place : at + length bytes + (m - at - length bytes) ≡ m = omega (arith, above) in
    get_or-append_right (take at old) (bytes ++ drop (at + length bytes) old) at m 0 front (omega (arith, above))
    ∙ get_or-append_right bytes (drop (at + length bytes) old) (length bytes) (m - at) 0 refl (omega (arith, above))
    ∙ get_or-drop (at + length bytes) old (m - at - length bytes) 0
    ∙ ap (λ (x : ℕ). get_or old x 0) place

put_long : (at : ℕ) (bytes old : List ℕ) → (at < length old) ⊎ (length old ≤ at) → length old ≤ length (put at bytes old)
put_long at bytes old (inl less) =
    let a = length-append (take at old) (bytes ++ drop (at + length bytes) old) in
    let b = length-append bytes (drop (at + length bytes) old) in
    let c = length-drop (at + length bytes) old in
    let d = length-take-le at old (omega (arith, less)) in
    omega (arith, a, b, c, d)
put_long at bytes old (inr more) =
    let a = length-append (take at old) (bytes ++ drop (at + length bytes) old) in
    let b = ap (λ (x : List ℕ). length x) (take_all at old more) in
    omega (arith, a, b)

same_bit : (old new : List ℕ) (k : ℕ) → get_or new (k / 8) 0 ≡ get_or old (k / 8) 0 → get_or (bits_of new) k 0 ≡ get_or (bits_of old) k 0
same_bit old new k e = get_or-bits_of new k ∙ ap (λ (b : ℕ). bit_at b (7 - k % 8)) e ∙ sym (get_or-bits_of old k)

put_bit : (at k : ℕ) (bytes old : List ℕ) → k < 8 * length old → ((8 * at ≤ k) → (k < 8 * (at + length bytes)) → ⊥) → (k < 8 * at) ⊎ (8 * at ≤ k) → (k < 8 * (at + length bytes)) ⊎ (8 * (at + length bytes) ≤ k)
    → get_or (bits_of (put at bytes old)) k 0 ≡ get_or (bits_of old) k 0
put_bit at k bytes old lt none (inl below) side = same_bit old (put at bytes old) k (put_front at (k / 8) bytes old (omega (arith, below)) (omega (arith, lt)))
put_bit at k bytes old lt none (inr from) (inl to) = absurd (none from to)
put_bit at k bytes old lt none (inr from) (inr above) = same_bit old (put at bytes old) k (put_after at (k / 8) bytes old (omega (arith, above)) (omega (arith, lt)))

-- ---- one item

field_bit : (i : ItemData) (z : ℤ) (old new : List ℕ) (w : WritesNumber i z old new) (k : ℕ) → IsFieldBit w.place k → IsWrittenBit i (Whole z) k
field_bit i z old new w k b =
    (b.0, subst (λ (n : ℕ). b.0 < n) (ap (λ (d : PlaceData). d.bits) w.there) b.1, b.2 ∙ ap (λ (d : PlaceData). bit_place_at d.order d.offset d.bits b.0) w.there)

raw_long : (end : Bool) (i : ItemData) (bytes old new : List ℕ) → is_to_the_end i ≡ end → WritesBytes i bytes old new → length old ≤ length new
raw_long true i bytes old new end w =
    let is : new ≡ old ++ bytes = rw end at w in
    let long : length new ≡ length old + length bytes = ap (λ (x : List ℕ). length x) is ∙ length-append old bytes in
    omega (arith, long)
raw_long false i bytes old new end w =
    let at = unsigned_abs i.offset / 8 in
    let is : new ≡ put at bytes old = rw end at w in
    subst (λ (x : List ℕ). length old ≤ length x) (sym is) (put_long at bytes old (cases_lt at (length old)))

item_long : (i : ItemData) (held : Preset) (old new : List ℕ) → Writes i held old new → length old ≤ length new
item_long i (Whole z) old new w = let len = w.others.len in omega (arith, len)
item_long i (Raw bytes) old new w = raw_long (is_to_the_end i) i bytes old new refl w.0

raw_stays : (end : Bool) (i : ItemData) (bytes old new : List ℕ) → is_to_the_end i ≡ end → WritesBytes i bytes old new → (k : ℕ) → k < 8 * length old → (IsWrittenBit i (Raw bytes) k → ⊥)
    → get_or (bits_of new) k 0 ≡ get_or (bits_of old) k 0
raw_stays true i bytes old new end w k lt none =
    let is : new ≡ old ++ bytes = rw end at w in
    ap (λ (x : List ℕ). get_or (bits_of x) k 0) is ∙ same_bit old (old ++ bytes) k (get_or_append_left old bytes 0 (k / 8) (omega (arith, lt)))
raw_stays false i bytes old new end w k lt none =
    let at = unsigned_abs i.offset / 8 in
    let is : new ≡ put at bytes old = rw end at w in
    ap (λ (x : List ℕ). get_or (bits_of x) k 0) is ∙ put_bit at k bytes old lt (λ from to. none (end, from, to)) (cases_lt k (8 * at)) (cases_lt k (8 * (at + length bytes)))

item_stays : (i : ItemData) (held : Preset) (old new : List ℕ) → Writes i held old new → (k : ℕ) → k < 8 * length old → (IsWrittenBit i held k → ⊥)
    → get_or (bits_of new) k 0 ≡ get_or (bits_of old) k 0
item_stays i (Whole z) old new w k lt none = w.others.others k (λ b. none (field_bit i z old new w k b))
item_stays i (Raw bytes) old new w k lt none = raw_stays (is_to_the_end i) i bytes old new refl w.0 k lt none

-- ---- all items

pub bits_stay : OtherBitsStay
bits_stay holds [] old new w k lt left = ap (λ (x : List ℕ). get_or (bits_of x) k 0) w
bits_stay holds (i ∷ items) old new w k lt left =
    let long = item_long i (holds i) old w.0 w.1 in
    bits_stay holds items w.0 new w.2 k (omega (arith, lt, long)) left.1 ∙ item_stays i (holds i) old w.0 w.1 k lt left.0

-- ---- numbers

long_all : (holds : ItemData → Preset) (items : List ItemData) (old new : List ℕ) → WritesAll holds items old new → length old ≤ length new
long_all holds [] old new w = subst (λ (x : List ℕ). length old ≤ length x) (sym w) (omega arith)
long_all holds (i ∷ items) old new w = let one = item_long i (holds i) old w.0 w.1 in let more = long_all holds items w.0 new w.2 in omega (arith, one, more)

field_stays : (q : Place) (old new : List ℕ) → reach q ≤ length old → length old ≤ length new
    → ((j : ℕ) → j < q.bits → get_or (bits_of new) (bit_place_at q.order q.offset q.bits j) 0 ≡ get_or (bits_of old) (bit_place_at q.order q.offset q.bits j) 0) → field q new ≡ field q old
field_stays q old new fits long same =
    let place = bit_place_at q.order q.offset q.bits in
    let l1 = length-bits_at place q.bits new in
    let l2 = length-bits_at place q.bits old in
    field_by_bits q.order q.offset q.bits new q.some_bits q.after_start (omega (arith, fits, long))
    ∙ ap (number_from_digits 2) (ext_get_or 0 (bits_at place q.bits new) (bits_at place q.bits old) (omega (arith, l1, l2)) (λ j h.
    let lt : j < q.bits = omega arith in
    get_or-bits_at place q.bits new j lt ∙ same j lt ∙ sym (get_or-bits_at place q.bits old j lt)))
    ∙ sym (field_by_bits q.order q.offset q.bits old q.some_bits q.after_start fits)

number_stands : (holds : ItemData → Preset) (i : ItemData) (z : ℤ) (later : List ItemData) (old next new : List ℕ) → WritesNumber i z old next → WritesAll holds later next new
    → ((k : ℕ) → IsWrittenBit i (Whole z) k → IsLeftBy holds later k) → number_at (place_of i) (is_signed i.kind) new ≡ z
number_stands holds i z later old next new w more left =
    let q = w.place in
    let len = w.others.len in
    let within = w.within in
    let fits : reach q ≤ length next = omega (arith, len, within) in
    let front = span_le_reach q.order q.offset q.bits q.some_bits q.after_start in
    let same : field q new ≡ field q next = field_stays q next new fits (long_all holds later next new more) (λ j lt.
    let inside = (bit_place_within q.order q.offset q.bits j q.some_bits front lt).1 in
    bits_stay holds later next new more (bit_place_at q.order q.offset q.bits j) (omega (arith, inside, fits)) (left (bit_place_at q.order q.offset q.bits j) (field_bit i z old next w (bit_place_at q.order q.offset q.bits j) (j, lt, refl)))) in
    let there : (bytes : List ℕ) → field q bytes ≡ field_at (place_of i).order (place_of i).offset (place_of i).bits bytes = λ bytes. ap (λ (d : PlaceData). field_at d.order d.offset d.bits bytes) w.there in
    ap (λ (n : ℕ). number_of (is_signed i.kind) (place_of i).bits n) (sym (there new) ∙ same ∙ there next) ∙ w.value

split : (holds : ItemData → Preset) (before items : List ItemData) (old new : List ℕ) → WritesAll holds (before ++ items) old new → (stood : List ℕ) × WritesAll holds items stood new
split holds [] items old new w = (old, w)
split holds (b ∷ before) items old new w = split holds before items w.0 new w.2

pub numbers_stand : NumbersStand
numbers_stand holds before i later z old new holding w left =
    let s = split holds before (i ∷ later) old new w in
    let one : WritesNumber i z s.0 s.1.0 = subst (λ (h : Preset). Writes i h s.0 s.1.0) holding s.1.1 in
    number_stands holds i z later s.0 s.1.0 new one s.1.2 left
