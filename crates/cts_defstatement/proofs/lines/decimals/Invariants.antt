use Rattle.std.proofs.Common.{◌≡◌, take, map}
use Rattle.cts_defstatement.specs.Numbers.{decimal}
use Rattle.cts_defstatement.proofs.lines.decimals.Given as goal

abbrev pub invariant-loop-word : goal.invariant-loop-word
invariant-loop-word l = l.held.items ≡ map decimal (take l.word-index l.words)
