use Rattle.std.proofs.Common.{◌≡◌, take}
use Rattle.cts_def.specs.Sites.{routed_targets}
use Rattle.cts_plan.proofs.completing.routed_targets.Given as goal

abbrev pub invariant-loop-number : goal.invariant-loop-number
invariant-loop-number l = l.targets ≡ routed_targets l.interfaces (take l.number-index l.numbers)
