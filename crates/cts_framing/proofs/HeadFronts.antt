-- A head is told by its own bytes.
use Rattle.std.proofs.Common.{◌≡◌, ℕ, ◌+◌, ◌≤◌, true, false, List, [], ◌++◌, length, drop, refl, sym, ◌∙◌, ap, arith, length-append}
use Rattle.std.specs.Prelude.{slice_index, slice_range}
use Rattle.std.proofs.lemmas.List.{drop-append-le, length-drop, get_or_append_left}
use Rattle.byteorder.specs.Endian.{big_number}
use Rattle.byteorder.specs.Numbers.{big_from-append}
use Rattle.cts_framing.specs.Heads.{target_end, packet_end, head_end, has_head, head_of}
use Rattle.cts_framing.proofs.Fronts.{le_tells, le_test, range_front}

pub number_front : (p : ℕ) (v y : List ℕ) → p + 4 ≤ length v → big_number 4 (drop p (v ++ y)) ≡ big_number 4 (drop p v)
number_front p v y h = ap (big_number 4) (drop-append-le p v y (omega (arith, h))) ∙ big_from-append 4 (drop p v) y (omega (arith, h, length-drop p v))

pub target_end_front : (v y : List ℕ) → head_end v ≤ length v → target_end (v ++ y) ≡ target_end v
target_end_front v y h = ap (λ n. 9 + n) (get_or_append_left v y 0 8 (omega (arith, h)))

pub packet_end_front : (v y : List ℕ) → head_end v ≤ length v → packet_end (v ++ y) ≡ packet_end v
packet_end_front v y h =
    let t = target_end_front v y h in
    let byte : slice_index (v ++ y) (target_end (v ++ y)) ≡ slice_index v (target_end v) =
    ap (slice_index (v ++ y)) t ∙ get_or_append_left v y 0 (target_end v) (omega (arith, h)) in
    ap (λ n. n + 1 + slice_index (v ++ y) (target_end (v ++ y))) t ∙ ap (λ n. target_end v + 1 + n) byte

pub has_head_front : (v y : List ℕ) → has_head v ≡ true → has_head (v ++ y) ≡ true
has_head_front v y h =
    let there = le_tells (head_end v) (length v) h in
    le_test (head_end (v ++ y)) (length (v ++ y)) (omega (arith, there, packet_end_front v y there, length-append v y))

pub head_of_front : (v y : List ℕ) → head_end v ≤ length v → head_of (v ++ y) ≡ head_of v
head_of_front v y h =
    let t = target_end_front v y h in
    let p = packet_end_front v y h in
    let seconds : big_number 4 (v ++ y) ≡ big_number 4 v = big_from-append 4 v y (omega (arith, h)) in
    let micros : big_number 4 (drop 4 (v ++ y)) ≡ big_number 4 (drop 4 v) = number_front 4 v y (omega (arith, h)) in
    let target : slice_range (v ++ y) 9 (target_end (v ++ y)) ≡ slice_range v 9 (target_end v) =
    ap (slice_range (v ++ y) 9) t ∙ range_front 9 (target_end v) v y (omega arith) (omega (arith, h)) in
    let packet : slice_range (v ++ y) (target_end (v ++ y) + 1) (packet_end (v ++ y)) ≡ slice_range v (target_end v + 1) (packet_end v) =
    ap (λ n. slice_range (v ++ y) (n + 1) (packet_end (v ++ y))) t ∙ (ap (slice_range (v ++ y) (target_end v + 1)) p ∙ range_front (target_end v + 1) (packet_end v) v y (omega arith) (omega (arith, h))) in
    let count : big_number 4 (drop (packet_end (v ++ y)) (v ++ y)) ≡ big_number 4 (drop (packet_end v) v) =
    ap (λ n. big_number 4 (drop n (v ++ y))) p ∙ number_front (packet_end v) v y (omega (arith, h)) in
    λ i. record { time = record { seconds = seconds i; micros = micros i }; target = target i; packet = packet i; count = count i }

pub no_head_in_none : has_head [] ≡ false
no_head_in_none = refl

-- a head that ends within some bytes is told by them
target_end_back : (v y : List ℕ) → 9 ≤ length v → target_end v ≡ target_end (v ++ y)
target_end_back v y h = ap (λ n. 9 + n) (sym (get_or_append_left v y 0 8 (omega (arith, h))))

pub head_end_back : (v y : List ℕ) → head_end (v ++ y) ≤ length v → head_end v ≡ head_end (v ++ y)
head_end_back v y h =
    let t = target_end_back v y (omega (arith, h)) in
    let byte : slice_index v (target_end v) ≡ slice_index (v ++ y) (target_end (v ++ y)) =
    ap (slice_index v) t ∙ sym (get_or_append_left v y 0 (target_end (v ++ y)) (omega (arith, h))) in
    omega (arith, t, byte)
