use Rattle.std.proofs.Common.{◌≡◌, ◌≤◌, count_by, take}
use Rattle.cts_outside.proofs.crew.count_cancelled.Given as goal

abbrev pub invariant-ends : goal.invariant-ends
invariant-ends g l = record {
  count : l.count ≡ count_by g.J.Job.is_cancelled (take l.end-index l.ends);
  small : l.count ≤ l.end-index;
}
