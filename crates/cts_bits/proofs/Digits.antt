-- The number that digits spell, cut and joined, in any base.
use Rattle.std.proofs.Common.{ℕ, zero, suc, ◌≡◌, ◌+◌, ◌-◌, ◌*◌, ◌/◌, ◌%◌, ◌^◌, ◌<◌, ◌≤◌, List, [], ◌∷◌, ◌++◌, length, take, drop, get_or, refl, sym, ap, ◌∙◌, arith, length-drop}
use Rattle.std.proofs.Math.Nat.{add-mul, mul_assoc, mul_comm, pow-zero, pow-suc}
use Rattle.std.proofs.lemmas.Nat.{div-mul-add, mod-mul-add, field_of, same_from_place}
use Rattle.std.proofs.lemmas.List.{take-append-drop}
use Rattle.std.proofs.lemmas.Int.Digits.{number_after_append, number_lt}
use Rattle.std.specs.Int.Digits.{number_from_digits, number_from_digits_after, AllBelowBase}

-- a sum of products, over numbers alone
carried : (n b d p q r : ℕ) → q ≡ p * b → (n * b + d) * p + r ≡ n * q + (d * p + r)
carried n b d p q r e = rw (e, add-mul (n * b) d p, mul_assoc n b p, mul_comm b p) (omega arith)

-- what stands before digits is worth a power of the base
pub number_after_split : (b n : ℕ) (ds : List ℕ) → number_from_digits_after b n ds ≡ n * b ^ length ds + number_from_digits_after b 0 ds
number_after_split b n [] = rw (pow-zero b) (omega arith)
number_after_split b n (d ∷ ds) =
    let none : 0 * b + d ≡ d = omega arith in
    number_after_split b (n * b + d) ds
    ∙ carried n b d (b ^ length ds) (b ^ suc (length ds)) (number_from_digits_after b 0 ds) (pow-suc b (length ds))
    ∙ ap (λ (x : ℕ). n * b ^ suc (length ds) + x) (sym (number_after_split b d ds) ∙ ap (λ (x : ℕ). number_from_digits_after b x ds) (sym none))

-- the first digit is worth a power of the base
pub number-cons : (b d : ℕ) (ds : List ℕ) → number_from_digits b (d ∷ ds) ≡ d * b ^ length ds + number_from_digits b ds
number-cons b d ds =
    let none : 0 * b + d ≡ d = omega arith in
    ap (λ (x : ℕ). number_from_digits_after b x ds) none ∙ number_after_split b d ds

-- digits in a row
pub number-append : (b : ℕ) (xs ys : List ℕ) → number_from_digits b (xs ++ ys) ≡ number_from_digits b xs * b ^ length ys + number_from_digits b ys
number-append b xs ys = number_after_append b 0 xs ys ∙ number_after_split b (number_from_digits b xs) ys

-- digits below the base, by their places
pub below_base : (b : ℕ) (ds : List ℕ) → ((i : ℕ) → i < length ds → get_or ds i 0 < b) → AllBelowBase b ds
below_base b [] h = tt
below_base b (d ∷ ds) h = (h 0 (omega arith), below_base b ds (λ i lt. h (suc i) (omega arith)))

pub below_base-drop : (b n : ℕ) (ds : List ℕ) → AllBelowBase b ds → AllBelowBase b (drop n ds)
below_base-drop b zero ds h = h
below_base-drop b (suc n) [] h = tt
below_base-drop b (suc n) (d ∷ ds) h = below_base-drop b n ds h.1

pub below_base-take : (b n : ℕ) (ds : List ℕ) → AllBelowBase b ds → AllBelowBase b (take n ds)
below_base-take b zero ds h = tt
below_base-take b (suc n) [] h = tt
below_base-take b (suc n) (d ∷ ds) h = (h.0, below_base-take b n ds h.1)

-- the front of the digits, and the rest of them
pub number-take : (b n : ℕ) (ds : List ℕ) → AllBelowBase b ds → n ≤ length ds → number_from_digits b (take n ds) ≡ number_from_digits b ds / b ^ (length ds - n)
number-take b n ds h le =
    let low = number_lt b (drop n ds) (below_base-drop b n ds h) in
    let len : length (drop n ds) ≡ length ds - n = length-drop n ds in
    let whole : number_from_digits b ds ≡ number_from_digits b (take n ds) * b ^ length (drop n ds) + number_from_digits b (drop n ds) =
    ap (number_from_digits b) (sym (take-append-drop n ds)) ∙ number-append b (take n ds) (drop n ds) in
    rw (← len, whole, div-mul-add (number_from_digits b (take n ds)) (b ^ length (drop n ds)) (number_from_digits b (drop n ds)) low) refl

pub number-drop : (b n : ℕ) (ds : List ℕ) → AllBelowBase b ds → n ≤ length ds → number_from_digits b (drop n ds) ≡ number_from_digits b ds % b ^ (length ds - n)
number-drop b n ds h le =
    let low = number_lt b (drop n ds) (below_base-drop b n ds h) in
    let len : length (drop n ds) ≡ length ds - n = length-drop n ds in
    let whole : number_from_digits b ds ≡ number_from_digits b (take n ds) * b ^ length (drop n ds) + number_from_digits b (drop n ds) =
    ap (number_from_digits b) (sym (take-append-drop n ds)) ∙ number-append b (take n ds) (drop n ds) in
    rw (← len, whole, mod-mul-add (number_from_digits b (take n ds)) (b ^ length (drop n ds)) (number_from_digits b (drop n ds)) low) refl

-- a run of n bits, with t bits after it
pub number-run : (s n t : ℕ) (ds : List ℕ) → AllBelowBase 2 ds → s + n + t ≡ length ds
    → number_from_digits 2 (take n (drop s ds)) ≡ number_from_digits 2 ds / 2 ^ t % 2 ^ n
number-run s n t ds h e =
    let len : length (drop s ds) ≡ length ds - s = length-drop s ds in
    let after : length (drop s ds) - n ≡ t = omega arith in
    let rest : length ds - s ≡ n + t = omega arith in
    number-take 2 n (drop s ds) (below_base-drop 2 s ds h) (omega arith)
    ∙ rw (after, number-drop 2 s ds h (omega arith), rest) (field_of (number_from_digits 2 ds) n t)

-- digits of one length that spell one number are the same
pub same_digits : (b : ℕ) (xs ys : List ℕ) → AllBelowBase b xs → AllBelowBase b ys → length xs ≡ length ys
    → number_from_digits b xs ≡ number_from_digits b ys → xs ≡ ys
same_digits b [] [] hx hy len e = refl
same_digits b [] (y ∷ ys) hx hy len e = absurd (omega arith)
same_digits b (x ∷ xs) [] hx hy len e = absurd (omega arith)
same_digits b (x ∷ xs) (y ∷ ys) hx hy len e =
    let l : length xs ≡ length ys = omega arith in
    let below_x = number_lt b xs hx.1 in
    let below_y : number_from_digits b ys < b ^ length xs = rw l (number_lt b ys hy.1) in
    let split : x * b ^ length xs + number_from_digits b xs ≡ y * b ^ length xs + number_from_digits b ys =
    sym (number-cons b x xs) ∙ e ∙ number-cons b y ys ∙ ap (λ (k : ℕ). y * b ^ k + number_from_digits b ys) (sym l) in
    let parts = same_from_place x (number_from_digits b xs) y (number_from_digits b ys) (b ^ length xs) below_x below_y split in
    let tail = same_digits b xs ys hx.1 hy.1 l parts.1 in
    let head : x ≡ y = parts.0 in
    rw (head, tail) refl
