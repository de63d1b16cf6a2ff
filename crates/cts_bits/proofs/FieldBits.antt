-- A field by the places of its bits in the buffer.
use Rattle.std.proofs.Common.{ℕ, ◌≡◌, ◌+◌, ◌-◌, ◌*◌, ◌/◌, ◌%◌, ◌<◌, ◌≤◌, List, length, take, drop, get_or, map, refl, sym, ap, ◌∙◌, arith}
use Rattle.std.proofs.lemmas.List.{ext_get_or, get_or-drop, get_or-take, length-drop, length-take-le}
use Rattle.std.proofs.lemmas.List.FromFn.{get_or-map-range_with_len, length-map-range_with_len}
use Rattle.std.specs.Int.{bit_at}
use Rattle.std.specs.Int.Digits.{number_from_digits}
use Rattle.std.specs.List.{range_with_len}
use Rattle.cts_bits.specs.declared.order.Order.{Order}
use Rattle.cts_bits.specs.declared.order.Order.TheVariants.{Big, Little}
use Rattle.cts_bits.specs.declared.place.Place.{Place}
use Rattle.cts_bits.specs.Bits.{bits_of}
use Rattle.cts_bits.specs.Fields.{IsApart, KeepsOtherBits, bit_place_at, field, field_at, reach}
use Rattle.cts_bits.specs.Places.{IsBeforeStart, reach_of, span}
use Rattle.cts_bits.specs.Windows.{in_order, turned}
use Rattle.cts_bits.proofs.BitLists.{get_or-bits_of, length-bits_of}
use Rattle.cts_bits.proofs.Runs.{filled, length-window, run_in_window, span_le_reach, window}
use Rattle.cts_bits.proofs.Turns.{get_or-in_order, length-in_order}
use Rattle.cts_bits.proofs.Writes.{bit_place_is, turned-lt, turned-turned}

-- the bits at the places of a field's bits
abbrev pub bits_at : (ℕ → ℕ) → ℕ → List ℕ → List ℕ
bits_at place n bytes = map (λ (j : ℕ). get_or (bits_of bytes) (place j) 0) (range_with_len 0 n)

pub length-bits_at : (place : ℕ → ℕ) (n : ℕ) (bytes : List ℕ) → length (bits_at place n bytes) ≡ n
length-bits_at place n bytes = length-map-range_with_len (λ (j : ℕ). get_or (bits_of bytes) (place j) 0) 0 n

pub get_or-bits_at : (place : ℕ → ℕ) (n : ℕ) (bytes : List ℕ) (j : ℕ) → j < n → get_or (bits_at place n bytes) j 0 ≡ get_or (bits_of bytes) (place j) 0
get_or-bits_at place n bytes j lt =
    get_or-map-range_with_len (λ (i : ℕ). get_or (bits_of bytes) (place i) 0) 0 n j j 0 lt (omega arith)

-- one bit of the run, in the buffer
run_bit : (o : Order) (offset bits : ℕ) (bytes : List ℕ) (j : ℕ) → 1 ≤ bits → span offset bits ≤ reach_of o offset bits → reach_of o offset bits ≤ length bytes → j < bits
    → get_or (bits_of (in_order o (window o offset bits bytes))) (offset % 8 + j) 0 ≡ get_or (bits_of bytes) (bit_place_at o offset bits j) 0
run_bit o offset bits bytes j some front fits lt =
    let n : ℕ = span offset bits in
    let first : ℕ = reach_of o offset bits - n in
    let xs : List ℕ = window o offset bits bytes in
    let lx : length xs ≡ n = length-window o offset bits bytes front fits in
    let fill = filled offset bits some in
    let q : ℕ = offset % 8 + j in
    let t : ℕ = q / 8 in
    let inside : t < n = omega arith in
    let i : ℕ = turned o n t in
    let place : 8 * (first + i) + q % 8 ≡ bit_place_at o offset bits j =
    bit_place_is o offset bits i (q % 8) q front some (turned-lt o n t inside) (omega arith) (rw (turned-turned o n t inside) (omega arith)) (omega arith)
    ∙ ap (bit_place_at o offset bits) (omega arith) in
    let turn = turned-lt o n t inside in
    let byte : (8 * (first + i) + q % 8) / 8 ≡ first + i = omega arith in
    let rest : (8 * (first + i) + q % 8) % 8 ≡ q % 8 = omega arith in
    let here : get_or (in_order o xs) t 0 ≡ get_or bytes (first + i) 0 =
    get_or-in_order o xs t (omega arith) ∙ rw lx (get_or-take (reach_of o offset bits - first) (drop first bytes) i 0 (omega arith) ∙ get_or-drop first bytes i 0) in
    get_or-bits_of (in_order o xs) q
    ∙ ap (λ (b : ℕ). bit_at b (7 - q % 8)) here
    ∙ sym (get_or-bits_of bytes (8 * (first + i) + q % 8) ∙ rw (byte, rest) refl)
    ∙ ap (λ (k : ℕ). get_or (bits_of bytes) k 0) place

-- the run of a field, bit by bit
pub field_by_bits : (o : Order) (offset bits : ℕ) (bytes : List ℕ) → 1 ≤ bits → (IsBeforeStart o offset bits → ⊥) → reach_of o offset bits ≤ length bytes
    → field_at o offset bits bytes ≡ number_from_digits 2 (bits_at (bit_place_at o offset bits) bits bytes)
unfolding field_at
field_by_bits o offset bits bytes some ok fits =
    let front = span_le_reach o offset bits some ok in
    let run : List ℕ = drop (offset % 8) (bits_of (in_order o (window o offset bits bytes))) in
    let fill = filled offset bits some in
    let l1 = length-bits_of (in_order o (window o offset bits bytes)) in
    let l2 = length-in_order o (window o offset bits bytes) in
    let l3 = length-window o offset bits bytes front fits in
    let l4 = length-drop (offset % 8) (bits_of (in_order o (window o offset bits bytes))) in
    let len : length (take bits run) ≡ bits = length-take-le bits run (omega arith) in
    let whole = length-bits_at (bit_place_at o offset bits) bits bytes in
    ap (number_from_digits 2) (run_in_window o offset bits bytes some front
    ∙ ext_get_or 0 (take bits run) (bits_at (bit_place_at o offset bits) bits bytes) (omega arith) (λ j h.
    let lt : j < bits = omega arith in
    get_or-take bits run j 0 lt
    ∙ get_or-drop (offset % 8) (bits_of (in_order o (window o offset bits bytes))) j 0
    ∙ run_bit o offset bits bytes j some front fits lt
    ∙ sym (get_or-bits_at (bit_place_at o offset bits) bits bytes j lt)))

-- a field that shares no bit with what was written stays
pub field_apart : (p q : Place) (old new : List ℕ) → KeepsOtherBits p old new → IsApart p q → reach q ≤ length old → field q new ≡ field q old
field_apart p q old new kept apart fits =
    let place = bit_place_at q.order q.offset q.bits in
    let len = kept.len in
    let l1 = length-bits_at place q.bits new in
    let l2 = length-bits_at place q.bits old in
    field_by_bits q.order q.offset q.bits new q.some_bits q.after_start (omega arith)
    ∙ ap (number_from_digits 2) (ext_get_or 0 (bits_at place q.bits new) (bits_at place q.bits old) (omega arith) (λ j h.
    let lt : j < q.bits = omega arith in
    get_or-bits_at place q.bits new j lt
    ∙ kept.others (place j) (λ b. apart (place j) b (j, lt, refl))
    ∙ sym (get_or-bits_at place q.bits old j lt)))
    ∙ sym (field_by_bits q.order q.offset q.bits old q.some_bits q.after_start fits)

-- some bit of the field stands in the last byte that it reaches
pub last_byte : (o : Order) (offset bits : ℕ) → 1 ≤ bits
    → (k : ℕ) × ((j : ℕ) × (j < bits) × (k ≡ bit_place_at o offset bits j)) × (8 * reach_of o offset bits ≤ k + 8)
last_byte Big offset bits some = (bit_place_at Big offset bits (bits - 1), (bits - 1, omega arith, refl), omega arith)
last_byte Little offset bits some = (bit_place_at Little offset bits 0, (0, omega arith, refl), omega arith)

-- the bits of a field stand in the bytes that it touches
pub bit_place_within : (o : Order) (offset bits j : ℕ) → 1 ≤ bits → span offset bits ≤ reach_of o offset bits → j < bits
    → (8 * (reach_of o offset bits - span offset bits) ≤ bit_place_at o offset bits j) × (bit_place_at o offset bits j < 8 * reach_of o offset bits)
bit_place_within Big offset bits j some front lt = (omega arith, omega arith)
bit_place_within Little offset bits j some front lt = (omega arith, omega arith)

-- fields that touch no byte in common share no bit
pub apart_by_bytes : (p q : Place) → reach p + span q.offset q.bits ≤ reach q → IsApart p q
apart_by_bytes p q before = λ k f g.
    let a = bit_place_within p.order p.offset p.bits f.0 p.some_bits (span_le_reach p.order p.offset p.bits p.some_bits p.after_start) f.1 in
    let b = bit_place_within q.order q.offset q.bits g.0 q.some_bits (span_le_reach q.order q.offset q.bits q.some_bits q.after_start) g.1 in
    let ka = f.2 in
    let kb = g.2 in
    omega arith

-- big-endian fields share no bit where one ends before the other begins
pub apart_big : (p q : Place) → p.order ≡ Big → q.order ≡ Big → p.offset + p.bits ≤ q.offset → IsApart p q
apart_big p q ep eq before = λ k f g.
    let lf = f.1 in
    let ka : k ≡ p.offset + f.0 = f.2 ∙ ap (λ (o : Order). bit_place_at o p.offset p.bits f.0) ep in
    let kb : k ≡ q.offset + g.0 = g.2 ∙ ap (λ (o : Order). bit_place_at o q.offset q.bits g.0) eq in
    omega arith

-- to share no bit goes both ways
pub apart-swap : (p q : Place) → IsApart p q → IsApart q p
apart-swap p q h = λ k f g. h k g f
