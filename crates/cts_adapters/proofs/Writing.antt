-- Bytes that are written one piece after another.
use Rattle.std.proofs.Common.{ℕ, ◌≤◌, ◌+◌, List, length, take, drop, Option, sym, subst}
use Rattle.std.proofs.Math.Seq.{take-add}
use Rattle.std.proofs.KnownBytes.{Appends-trans, Appends-kept}
use Rattle.std.specs.Io.KnownBytes.{Appends, Keeps}
use Rattle.cts_adapters.specs.Writes.{AppendsPart}

-- the next piece is written after the bytes before the place
pub written_more : (a b c : Option (List ℕ)) (bytes : List ℕ) (at n : ℕ) → Appends a b (take at bytes) → Appends b c (take n (drop at bytes)) → Appends a c (take (at + n) bytes)
written_more a b c bytes at n p q =
    subst (λ (all : List ℕ). Appends a c all) (sym (take-add at n bytes)) (Appends-trans a b c (take at bytes) (take n (drop at bytes)) p q)

-- a write that failed leaves what is written
pub written_kept : (a b c : Option (List ℕ)) (bytes : List ℕ) (at : ℕ) → at ≤ length bytes → Appends a b (take at bytes) → Keeps b c → AppendsPart a c bytes
written_kept a b c bytes at h p k = (at, h, Appends-kept a b c (take at bytes) p k)
