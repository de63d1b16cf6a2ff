-- What holds at each of twelve numbers.
use Rattle.std.proofs.Common.{ℕ, zero, suc, ◌≤◌, arith}

pub at_most_11 : (P : ℕ → Type 0) → P 0 → P 1 → P 2 → P 3 → P 4 → P 5 → P 6 → P 7 → P 8 → P 9 → P 10 → P 11 → (v : ℕ) → v ≤ 11 → P v
at_most_11 P a0 a1 a2 a3 a4 a5 a6 a7 a8 a9 a10 a11 zero h = a0
at_most_11 P a0 a1 a2 a3 a4 a5 a6 a7 a8 a9 a10 a11 (suc zero) h = a1
at_most_11 P a0 a1 a2 a3 a4 a5 a6 a7 a8 a9 a10 a11 (suc (suc zero)) h = a2
at_most_11 P a0 a1 a2 a3 a4 a5 a6 a7 a8 a9 a10 a11 (suc (suc (suc zero))) h = a3
at_most_11 P a0 a1 a2 a3 a4 a5 a6 a7 a8 a9 a10 a11 (suc (suc (suc (suc zero)))) h = a4
at_most_11 P a0 a1 a2 a3 a4 a5 a6 a7 a8 a9 a10 a11 (suc (suc (suc (suc (suc zero))))) h = a5
at_most_11 P a0 a1 a2 a3 a4 a5 a6 a7 a8 a9 a10 a11 (suc (suc (suc (suc (suc (suc zero)))))) h = a6
at_most_11 P a0 a1 a2 a3 a4 a5 a6 a7 a8 a9 a10 a11 (suc (suc (suc (suc (suc (suc (suc zero))))))) h = a7
at_most_11 P a0 a1 a2 a3 a4 a5 a6 a7 a8 a9 a10 a11 (suc (suc (suc (suc (suc (suc (suc (suc zero)))))))) h = a8
at_most_11 P a0 a1 a2 a3 a4 a5 a6 a7 a8 a9 a10 a11 (suc (suc (suc (suc (suc (suc (suc (suc (suc zero))))))))) h = a9
at_most_11 P a0 a1 a2 a3 a4 a5 a6 a7 a8 a9 a10 a11 (suc (suc (suc (suc (suc (suc (suc (suc (suc (suc zero)))))))))) h = a10
at_most_11 P a0 a1 a2 a3 a4 a5 a6 a7 a8 a9 a10 a11 (suc (suc (suc (suc (suc (suc (suc (suc (suc (suc (suc zero))))))))))) h = a11
at_most_11 P a0 a1 a2 a3 a4 a5 a6 a7 a8 a9 a10 a11 (suc (suc (suc (suc (suc (suc (suc (suc (suc (suc (suc (suc v)))))))))))) h = absurd (omega (arith, h))
