-- How often a count rose, step by step.
use Rattle.std.proofs.Common.{ℕ, ◌+◌, Bool, true, false, arith}
use Rattle.cts_worker.specs.Counts.{RoseBy, RoseIf, one_if}

pub rose_then : (j k a b c : ℕ) → RoseBy j a b → RoseBy k b c → RoseBy (j + k) a c
rose_then j k a b c r s = let w = r.0 in let x = r.1 in let y = s.0 in let z = s.1 in (omega (arith, w, y), omega (arith, w, x, y, z))

pub rose_same : (a : ℕ) → RoseBy 0 a a
rose_same a = (omega arith, omega arith)

pub rose_if : (b : Bool) (before now : ℕ) → RoseIf b before now → RoseBy (one_if b) before now
rose_if true before now r = let w = r.0 in let x = r.1 in (omega (arith, w), omega (arith, x))
rose_if false before now r = (omega (arith, r), omega (arith, r))
