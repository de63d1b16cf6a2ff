use Rattle.std.proofs.Common.{◌≡◌, ℕ, ◌<◌, get_or, false}
use Rattle.cts_words.specs.Seen.{stops}
use Rattle.cts_words.proofs.line.run_len.Given as goal

abbrev pub invariant-loop-at : goal.invariant-loop-at
invariant-loop-at l = (k : ℕ) → k < l.at → stops l.stop (get_or l.line k 0) ≡ false
