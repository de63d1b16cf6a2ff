-- Other bits in the middle of a number.
use Rattle.std.proofs.Common.{ℕ, ◌≡◌, ◌+◌, ◌-◌, ◌*◌, ◌/◌, ◌%◌, ◌^◌, ◌<◌, ◌≤◌, ◌⊎◌, sym, ap, ◌∙◌, arith, inl, inr}
use Rattle.std.proofs.lemmas.Nat.{div-add-mod', div-mul-add, mod-mul-add, mod_below, mul-add-lt, pow-add, pow_pos, shr-shr, shr_below}
use Rattle.std.proofs.lemmas.Nat.Bits.{bit_at_cat_high, bit_at_cat_low}
use Rattle.std.specs.Int.{bit_at}
use Rattle.cts_bits.specs.Windows.{replaced}

-- the number has as many bits as before
pub replaced-lt : (number t n m value : ℕ) → number < 2 ^ m → t + n ≤ m → value < 2 ^ n → replaced number t n value < 2 ^ m
replaced-lt number t n m value small le sv =
    let j : ℕ = m - (t + n) in
    let whole : m ≡ j + (t + n) = omega arith in
    let above : ℕ = number / 2 ^ (t + n) in
    let above_lt : above < 2 ^ j = shr_below number j (t + n) (rw (← whole) small) in
    let room : 2 ^ n * 2 ^ j ≡ 2 ^ (n + j) = sym (pow-add 2 n j) in
    let middle_lt : above * 2 ^ n + value < 2 ^ (n + j) = rw room at (mul-add-lt above (2 ^ n) value (2 ^ j) above_lt sv) in
    let all : 2 ^ t * 2 ^ (n + j) ≡ 2 ^ m = sym (pow-add 2 t (n + j)) ∙ ap (λ (k : ℕ). 2 ^ k) (omega arith) in
    rw all at (mul-add-lt (above * 2 ^ n + value) (2 ^ t) (number % 2 ^ t) (2 ^ (n + j)) middle_lt (mod_below number (2 ^ t) (pow_pos t)))

-- what stands there now
pub cut-replaced : (number t n value : ℕ) → value < 2 ^ n → replaced number t n value / 2 ^ t % 2 ^ n ≡ value
cut-replaced number t n value sv =
    let above : ℕ = number / 2 ^ (t + n) in
    rw (div-mul-add (above * 2 ^ n + value) (2 ^ t) (number % 2 ^ t) (mod_below number (2 ^ t) (pow_pos t))) (mod-mul-add above (2 ^ n) value sv)

-- to put in what stands there changes nothing
pub replaced-same : (number t n : ℕ) → replaced number t n (number / 2 ^ t % 2 ^ n) ≡ number
replaced-same number t n =
    let joined : number / 2 ^ (t + n) * 2 ^ n + number / 2 ^ t % 2 ^ n ≡ number / 2 ^ t =
    rw (← shr-shr number t n) (div-add-mod' (number / 2 ^ t) (2 ^ n)) in
    rw joined (div-add-mod' number (2 ^ t))

-- the bits below and above stay
pub bit_at-replaced : (number t n value i : ℕ) → value < 2 ^ n → (i < t) ⊎ (t + n ≤ i) → bit_at (replaced number t n value) i ≡ bit_at number i
bit_at-replaced number t n value i sv (inl below) =
    let above : ℕ = number / 2 ^ (t + n) in
    let new = bit_at_cat_low (above * 2 ^ n + value) t (number % 2 ^ t) i below in
    let old = bit_at_cat_low (number / 2 ^ t) t (number % 2 ^ t) i below in
    new ∙ sym old ∙ ap (λ (x : ℕ). bit_at x i) (div-add-mod' number (2 ^ t))
bit_at-replaced number t n value i sv (inr past) =
    let above : ℕ = number / 2 ^ (t + n) in
    let new = bit_at_cat_high (above * 2 ^ n + value) t (number % 2 ^ t) i (mod_below number (2 ^ t) (pow_pos t)) (omega arith) in
    let next = bit_at_cat_high above n value (i - t) sv (omega arith) in
    let e : t + n + (i - t - n) ≡ i = omega arith in
    new ∙ next ∙ ap (λ (x : ℕ). x % 2) (shr-shr number (t + n) (i - t - n) ∙ ap (λ (k : ℕ). number / 2 ^ k) e)
