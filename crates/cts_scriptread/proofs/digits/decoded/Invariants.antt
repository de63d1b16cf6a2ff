use Rattle.cts_scriptread.proofs.DigitPairs.{ArePairs}
use Rattle.cts_scriptread.proofs.digits.decoded.Given as goal

abbrev pub invariant-loop-place : goal.invariant-loop-place
invariant-loop-place l = ArePairs l.text l.bytes.items l.place l.greatest
