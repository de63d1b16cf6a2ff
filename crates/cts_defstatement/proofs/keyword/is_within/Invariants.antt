use Rattle.std.proofs.Common.{◌≡◌, drop}
use Rattle.cts_defstatement.specs.Forms.{is_within}
use Rattle.cts_defstatement.proofs.keyword.is_within.Given as goal

abbrev pub invariant-loop-at : goal.invariant-loop-at
invariant-loop-at l = is_within l.text (drop l.at l.word) ≡ is_within l.text l.word
