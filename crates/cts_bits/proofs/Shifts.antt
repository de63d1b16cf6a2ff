-- Shifts and masks of a number below 2 ^ 72, at 128 bits.
use Rattle.std.proofs.Common.{ℕ, ◌≡◌, ◌+◌, ◌-◌, ◌*◌, ◌/◌, ◌%◌, ◌^◌, ◌<◌, ◌≤◌, bit_and, bit_or, sym, arith}
use Rattle.std.proofs.lemmas.Nat.{and_mask, mod_below, mul-add-lt, one_shl, or_shifted, pow-add, pow_pos, shl_whole, shr_below}
use Rattle.cts_bits.specs.Windows.{replaced}

-- a mask of the low k bits
pub masked : (n k : ℕ) → k < 128 → bit_and n (1 * 2 ^ k % 2 ^ 128 - 1) ≡ n % 2 ^ k
masked n k h = rw (one_shl k 128 h) (and_mask n k)

-- other bits in the middle of a number, by shifts
pub replaced_shifts : (number t n value : ℕ) → number < 2 ^ 72 → t < 8 → n ≤ 64 → value < 2 ^ n
    → bit_or (bit_or (number / 2 ^ (t + n) * 2 ^ n % 2 ^ 128) value * 2 ^ t % 2 ^ 128) (bit_and number (1 * 2 ^ t % 2 ^ 128 - 1))
    ≡ replaced number t n value
replaced_shifts number t n value small st sn sv =
    let j : ℕ = 72 - (t + n) in
    let whole : 72 ≡ j + (t + n) = omega arith in
    let above : ℕ = number / 2 ^ (t + n) in
    let above_lt : above < 2 ^ j = shr_below number j (t + n) (rw (← whole) small) in
    let first : above * 2 ^ n % 2 ^ 128 ≡ above * 2 ^ n = shl_whole above j n 128 above_lt (omega arith) in
    let joined : bit_or (above * 2 ^ n) value ≡ above * 2 ^ n + value = or_shifted above n value sv in
    let room : 2 ^ n * 2 ^ j ≡ 2 ^ (n + j) = sym (pow-add 2 n j) in
    let middle_lt : above * 2 ^ n + value < 2 ^ (n + j) = rw room at (mul-add-lt above (2 ^ n) value (2 ^ j) above_lt sv) in
    let second : (above * 2 ^ n + value) * 2 ^ t % 2 ^ 128 ≡ (above * 2 ^ n + value) * 2 ^ t =
    shl_whole (above * 2 ^ n + value) (n + j) t 128 middle_lt (omega arith) in
    let below : bit_and number (1 * 2 ^ t % 2 ^ 128 - 1) ≡ number % 2 ^ t = masked number t (omega arith) in
    rw (first, joined, second, below) (or_shifted (above * 2 ^ n + value) t (number % 2 ^ t) (mod_below number (2 ^ t) (pow_pos t)))
