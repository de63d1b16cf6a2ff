use Rattle.std.proofs.Common.{◌≡◌, ◌++◌, length}
use Rattle.cts_rehearsal.specs.Generated.{generated}
use Rattle.cts_rehearsal.proofs.rehearsal.generated.Given as goal

abbrev pub invariant-rest : goal.invariant-rest
invariant-rest l = l.all.items ++ l.rehearsal ≡ generated l.fn.n

abbrev pub decreases-rest : goal.decreases-rest
decreases-rest l = length l.rehearsal
