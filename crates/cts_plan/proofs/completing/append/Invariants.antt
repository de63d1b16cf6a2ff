use Rattle.std.proofs.Common.{◌≡◌, ◌++◌, take}
use Rattle.cts_plan.proofs.completing.append.Given as goal

abbrev pub invariant-loop-name : goal.invariant-loop-name
invariant-loop-name l = l.targets ≡ l.initial.targets ++ take l.name-index l.more
