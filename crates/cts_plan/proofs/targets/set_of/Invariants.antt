use Rattle.std.proofs.Common.{take}
use Rattle.std.specs.Cmp.Lexicographic.{slice_cmp}
use Rattle.std.specs.Ordering.{nat_cmp}
use Rattle.cts_base.specs.Known.{Knows}
use Rattle.cts_plan.proofs.targets.set_of.Given as goal

abbrev pub invariant-loop-name : goal.invariant-loop-name
invariant-loop-name l = Knows (slice_cmp nat_cmp) l.known (take l.name-index l.names)
