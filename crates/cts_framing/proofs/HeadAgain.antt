-- A head that was written is read again, whatever follows.
use Rattle.std.proofs.Common.{◌≡◌, ℕ, ◌+◌, ◌-◌, List, [], ◌∷◌, ◌++◌, length, take, drop, refl, sym, ◌∙◌, ap, arith, append_assoc, length-append}
use Rattle.std.specs.Prelude.{slice_index, slice_range}
use Rattle.std.proofs.lemmas.List.{take_at, drop_at, get_or-append-add}
use Rattle.std.proofs.Math.Seq.{get_or-append_seam, drop-append-add}
use Rattle.byteorder.specs.Endian.{big_bytes, big_number}
use Rattle.byteorder.specs.Numbers.{big_number-reads_back}
use Rattle.cts_framing.specs.Heads.{HeadData, FitsHead, head_bytes, target_end, packet_end, head_end, head_of}

-- eight bytes of time and one of length, and what follows
abbrev pub front : ℕ → ℕ → ℕ → List ℕ → List ℕ
front s m n v = big_bytes 4 s ++ (big_bytes 4 m ++ (n ∷ v))

-- the head and what follows
abbrev pub laid : HeadData → List ℕ → List ℕ
laid d x = front d.time.seconds d.time.micros (length d.target) (d.target ++ (length d.packet ∷ (d.packet ++ (big_bytes 4 d.count ++ x))))

pub laid_is : (d : HeadData) (x : List ℕ) → head_bytes d ++ x ≡ laid d x
laid_is d x =
    ap (front d.time.seconds d.time.micros (length d.target))
    (append_assoc d.target (length d.packet ∷ (d.packet ++ big_bytes 4 d.count)) x ∙ ap (λ v. d.target ++ (length d.packet ∷ v)) (append_assoc d.packet (big_bytes 4 d.count) x))

drop_front : (s m n k : ℕ) (v : List ℕ) → drop (9 + k) (front s m n v) ≡ drop k v
drop_front s m n k v = drop-append-add (front s m n []) v k

index_front : (s m n k : ℕ) (v : List ℕ) → slice_index (front s m n v) (9 + k) ≡ slice_index v k
index_front s m n k v = get_or-append-add (front s m n []) v k 0

target_end_is : (d : HeadData) (x : List ℕ) → target_end (laid d x) ≡ 9 + length d.target
target_end_is d x = refl

packet_len_is : (d : HeadData) (x : List ℕ) → slice_index (laid d x) (target_end (laid d x)) ≡ length d.packet
packet_len_is d x = index_front d.time.seconds d.time.micros (length d.target) (length d.target) (d.target ++ (length d.packet ∷ (d.packet ++ (big_bytes 4 d.count ++ x))))
    ∙ get_or-append_seam d.target (length d.packet) (d.packet ++ (big_bytes 4 d.count ++ x)) 0

packet_end_is : (d : HeadData) (x : List ℕ) → packet_end (laid d x) ≡ 9 + (length d.target + 1 + length d.packet)
packet_end_is d x = omega (arith, packet_len_is d x)

later : (d : HeadData) (x : List ℕ) → drop (9 + (length d.target + 1 + length d.packet)) (laid d x) ≡ big_bytes 4 d.count ++ x
later d x =
    drop_front d.time.seconds d.time.micros (length d.target) (length d.target + 1 + length d.packet) (d.target ++ (length d.packet ∷ (d.packet ++ (big_bytes 4 d.count ++ x))))
    ∙ (ap (drop (length d.target + 1 + length d.packet)) (sym (append_assoc d.target (length d.packet ∷ d.packet) (big_bytes 4 d.count ++ x)))
    ∙ drop_at (d.target ++ length d.packet ∷ d.packet) (big_bytes 4 d.count ++ x) (length d.target + 1 + length d.packet) (omega (arith, length-append d.target (length d.packet ∷ d.packet))))

pub head_length : (d : HeadData) → length (head_bytes d) ≡ 14 + length d.target + length d.packet
head_length d = omega (arith, length-append d.target (length d.packet ∷ (d.packet ++ big_bytes 4 d.count)), length-append d.packet (big_bytes 4 d.count))

laid_end : (d : HeadData) (x : List ℕ) → head_end (laid d x) ≡ length (head_bytes d)
laid_end d x = omega (arith, packet_end_is d x, head_length d)

laid_head : (d : HeadData) (x : List ℕ) → FitsHead d → head_of (laid d x) ≡ d
laid_head d x f =
    let v : List ℕ = d.target ++ (length d.packet ∷ (d.packet ++ (big_bytes 4 d.count ++ x))) in
    let seconds : big_number 4 (laid d x) ≡ d.time.seconds = big_number-reads_back 4 d.time.seconds (big_bytes 4 d.time.micros ++ (length d.target ∷ v)) f.seconds in
    let micros : big_number 4 (drop 4 (laid d x)) ≡ d.time.micros = big_number-reads_back 4 d.time.micros (length d.target ∷ v) f.micros in
    let target : slice_range (laid d x) 9 (target_end (laid d x)) ≡ d.target = take_at d.target (length d.packet ∷ (d.packet ++ (big_bytes 4 d.count ++ x))) (9 + length d.target - 9) (omega arith) in
    let after : drop (target_end (laid d x) + 1) (laid d x) ≡ d.packet ++ (big_bytes 4 d.count ++ x) =
    ap (λ n. drop n (laid d x)) (omega (arith, target_end_is d x)) ∙ (drop_front d.time.seconds d.time.micros (length d.target) (length d.target + 1) v
    ∙ (ap (drop (length d.target + 1)) (sym (append_assoc d.target (length d.packet ∷ []) (d.packet ++ (big_bytes 4 d.count ++ x))))
    ∙ drop_at (d.target ++ length d.packet ∷ []) (d.packet ++ (big_bytes 4 d.count ++ x)) (length d.target + 1) (omega (arith, length-append d.target (length d.packet ∷ []))))) in
    let packet : slice_range (laid d x) (target_end (laid d x) + 1) (packet_end (laid d x)) ≡ d.packet =
    ap (take (packet_end (laid d x) - (target_end (laid d x) + 1))) after
    ∙ take_at d.packet (big_bytes 4 d.count ++ x) (packet_end (laid d x) - (target_end (laid d x) + 1)) (omega (arith, packet_end_is d x, target_end_is d x)) in
    let count : big_number 4 (drop (packet_end (laid d x)) (laid d x)) ≡ d.count =
    ap (λ n. big_number 4 (drop n (laid d x))) (packet_end_is d x) ∙ (ap (big_number 4) (later d x) ∙ big_number-reads_back 4 d.count x f.count) in
    λ i. record { time = record { seconds = seconds i; micros = micros i }; target = target i; packet = packet i; count = count i }

pub end_again : (d : HeadData) (x : List ℕ) → head_end (head_bytes d ++ x) ≡ length (head_bytes d)
end_again d x = ap head_end (laid_is d x) ∙ laid_end d x

pub head_again : (d : HeadData) (x : List ℕ) → FitsHead d → head_of (head_bytes d ++ x) ≡ d
head_again d x f = ap head_of (laid_is d x) ∙ laid_head d x f
