-- A text within a word, found from one place on.
use Rattle.std.proofs.Common.{◌≡◌, ℕ, zero, suc, ◌+◌, ◌<◌, false, List, [], ◌∷◌, length, drop, refl, arith, add-one}
use Rattle.cts_defstatement.specs.Forms.{begins_with, is_within}

after_place : (text word : List ℕ) (at : ℕ) → at < length word → begins_with text (drop at word) ≡ false
    → is_within text (drop (suc at) word) ≡ is_within text (drop at word)
after_place text [] at h none = absurd (omega arith)
after_place text (c ∷ word) zero h none = rw none refl
after_place text (c ∷ word) (suc at) h none = after_place text word at (omega arith) none

pub within_after : (text word : List ℕ) (at : ℕ) → at < length word → begins_with text (drop at word) ≡ false
    → is_within text (drop (at + 1) word) ≡ is_within text (drop at word)
within_after text word at h none = rw add-one (after_place text word at h none)
