use Rattle.std.proofs.Common.{length}
use Rattle.cts_http.proofs.WholeLemmas.{Counted}
use Rattle.cts_http.proofs.whole.requests_with.Given as goal

abbrev pub invariant-loop-head : goal.invariant-loop-head
invariant-loop-head l = Counted l.bytes l.count l.left

abbrev pub decreases-loop-head : goal.decreases-loop-head
decreases-loop-head l = length l.left
