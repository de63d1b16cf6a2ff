use Rattle.std.proofs.Common.{◌≡◌, ◌+◌, ◌≤◌, List, ◌++◌, length, vec_len, vec_capacity}
use Rattle.std.specs.List.{AllByRecursion, AllZip}
use Rattle.cts_outside.specs.Crews.{EndsAs, CancelledFrom}
use Rattle.cts_outside.proofs.turn_crew.one_by_one.Given as goal

abbrev pub invariant-jobs : goal.invariant-jobs
invariant-jobs g l = record {
  ends : (done : List _) × (done ++ l.jobs.items ≡ l.fn.jobs.items) × AllZip (EndsAs g.J.Job.is_cancelled g.J.Job.works_to g.J.Job.cancels_to) done l.ends.items;
  ready : AllByRecursion g.J.Job.is_ready l.jobs.items;
  room : vec_len l.ends + vec_len l.jobs ≤ vec_capacity l.ends;
  number : l.number + vec_len l.jobs ≤ vec_len l.fn.jobs;
  exact : CancelledFrom g.J.Job.is_cancelled ((g.W.Crew.seen l.crew).refused) 0 l.ends.items;
  count : l.number ≡ length l.ends.items;
}

abbrev pub decreases-jobs : goal.decreases-jobs
decreases-jobs g l = vec_len l.jobs
