-- The numbers from which a rehearsal is made: a linear congruential generator over 64 bits, with the multiplier that Knuth gives for it
-- (MMIX).
use Rattle.std.specs.Prelude.{ℕ, ◌+◌, ◌*◌, ◌/◌, ◌%◌, ◌^◌}

-- one number after the other
abbrev pub next_number : ℕ → ℕ
next_number x = (6364136223846793005 * x + 1442695040888963407) % 2 ^ 64

-- the part of a number that chooses what happens: its lowest bits repeat too soon
abbrev pub choice_of : ℕ → ℕ
choice_of x = x / 2 ^ 33
