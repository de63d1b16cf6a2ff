-- The bits of bytes.
use Rattle.std.proofs.Common.{ℕ, zero, suc, ◌≡◌, ◌+◌, ◌-◌, ◌*◌, ◌/◌, ◌%◌, ◌^◌, ◌<◌, List, [], ◌∷◌, ◌++◌, length, take, drop, get_or, refl, sym, ap, ◌∙◌, arith}
use Rattle.std.proofs.Math.Nat.{pow-suc}
use Rattle.std.proofs.lemmas.Nat.{pow-add}
use Rattle.std.proofs.Math.Seq.{take-append-add}
use Rattle.std.proofs.lemmas.List.{drop_all, drop_at, drop-drop, drop_more, take_all}
use Rattle.std.proofs.lemmas.Nat.Bits.{bit_at-lt, bit_at-zero}
use Rattle.std.specs.Int.{bit_at}
use Rattle.std.specs.Int.Digits.{number_from_digits, AllBelowBase}
use Rattle.cts_bits.specs.Bits.{bits_of, byte_bits}
use Rattle.cts_bits.proofs.Digits.{number-append, number-cons, number-run}

pub length-bits_of : (bs : List ℕ) → length (bits_of bs) ≡ 8 * length bs
unfolding bits_of
length-bits_of [] = refl
length-bits_of (b ∷ bs) = omega (arith, length-bits_of bs)

pub bits_of-cons : (b : ℕ) (bs : List ℕ) → bits_of (b ∷ bs) ≡ byte_bits b ++ bits_of bs
unfolding bits_of
bits_of-cons b bs = refl

-- each is 0 or 1
pub bits_of-below : (bs : List ℕ) → AllBelowBase 2 (bits_of bs)
unfolding bits_of
bits_of-below [] = tt
bits_of-below (b ∷ bs) =
    (bit_at-lt b 7, (bit_at-lt b 6, (bit_at-lt b 5, (bit_at-lt b 4, (bit_at-lt b 3, (bit_at-lt b 2, (bit_at-lt b 1, (bit_at-lt b 0, bits_of-below bs))))))))

-- the bits of a byte spell it
number-byte_bits : (b : ℕ) → b < 256 → number_from_digits 2 (byte_bits b) ≡ b
number-byte_bits b h = omega arith

-- two ways to write how many numbers n bytes spell
pub pow256 : (n : ℕ) → 256 ^ n ≡ 2 ^ (8 * n)
pow256 zero = refl
pow256 (suc n) =
    let e : 8 * suc n ≡ 8 * n + 8 = omega arith in
    rw (pow-suc 256 n, pow256 n, e, pow-add 2 (8 * n) 8) refl

-- the bits of bytes spell the number that the bytes spell
pub number-bits_of : (bs : List ℕ) → AllBelowBase 256 bs → number_from_digits 2 (bits_of bs) ≡ number_from_digits 256 bs
number-bits_of [] h = unfold bits_of in refl
number-bits_of (b ∷ bs) h =
    let rest = number-bits_of bs h.1 in
    let len = length-bits_of bs in
    rw (bits_of-cons b bs, number-append 2 (byte_bits b) (bits_of bs), number-byte_bits b h.0, rest, len, number-cons 256 b bs, pow256 (length bs)) refl

-- whole bytes at the front
pub bits_of-drop : (k : ℕ) (bs : List ℕ) → bits_of (drop k bs) ≡ drop (8 * k) (bits_of bs)
bits_of-drop zero bs = refl
bits_of-drop (suc k) [] = unfold bits_of in sym (drop_all (8 * suc k) [] (omega arith))
bits_of-drop (suc k) (b ∷ bs) =
    let e : 8 * suc k ≡ 8 * k + 8 = omega arith in
    bits_of-drop k bs
    ∙ rw (e, bits_of-cons b bs) (sym (ap (drop (8 * k)) (drop_at (byte_bits b) (bits_of bs) 8 refl)) ∙ drop-drop (8 * k) 8 (byte_bits b ++ bits_of bs) ∙ ap (λ (n : ℕ). drop n (byte_bits b ++ bits_of bs)) (omega arith))

pub bits_of-take : (k : ℕ) (bs : List ℕ) → bits_of (take k bs) ≡ take (8 * k) (bits_of bs)
bits_of-take zero bs = unfold bits_of in refl
bits_of-take (suc k) [] = unfold bits_of in sym (take_all (8 * suc k) [] (omega arith))
bits_of-take (suc k) (b ∷ bs) =
    let e : 8 * suc k ≡ length (byte_bits b) + 8 * k = omega arith in
    let rest = bits_of-take k bs in
    rw (bits_of-cons b (take k bs), rest, bits_of-cons b bs, e) (sym (take-append-add (byte_bits b) (bits_of bs) (8 * k)))

-- one bit
pub get_or-bits_of : (bs : List ℕ) (k : ℕ) → get_or (bits_of bs) k 0 ≡ bit_at (get_or bs (k / 8) 0) (7 - k % 8)
unfolding bits_of
get_or-bits_of [] k = sym (bit_at-zero (7 - k % 8))
get_or-bits_of (b ∷ bs) zero = refl
get_or-bits_of (b ∷ bs) (suc zero) = refl
get_or-bits_of (b ∷ bs) (suc (suc zero)) = refl
get_or-bits_of (b ∷ bs) (suc (suc (suc zero))) = refl
get_or-bits_of (b ∷ bs) (suc (suc (suc (suc zero)))) = refl
get_or-bits_of (b ∷ bs) (suc (suc (suc (suc (suc zero))))) = refl
get_or-bits_of (b ∷ bs) (suc (suc (suc (suc (suc (suc zero)))))) = refl
get_or-bits_of (b ∷ bs) (suc (suc (suc (suc (suc (suc (suc zero))))))) = refl
get_or-bits_of (b ∷ bs) (suc (suc (suc (suc (suc (suc (suc (suc k)))))))) =
    let n : ℕ = suc (suc (suc (suc (suc (suc (suc (suc k))))))) in
    let byte : n / 8 ≡ suc (k / 8) = omega arith in
    let place : n % 8 ≡ k % 8 = omega arith in
    get_or-bits_of bs k ∙ rw (byte, place) refl

-- one bit of a list of bits, by the number that they spell
pub get_or-number : (ds : List ℕ) (k : ℕ) → AllBelowBase 2 ds → k < length ds → get_or ds k 0 ≡ bit_at (number_from_digits 2 ds) (length ds - 1 - k)
get_or-number ds k h lt =
    let run = number-run k 1 (length ds - 1 - k) ds h (omega arith) in
    let one : number_from_digits 2 (take 1 (drop k ds)) ≡ get_or ds k 0 = rw (drop_more ds k 0 lt) (omega arith) in
    sym one ∙ run
