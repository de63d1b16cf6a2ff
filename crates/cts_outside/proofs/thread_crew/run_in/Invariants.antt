use Rattle.std.proofs.Common.{◌≡◌, ◌+◌, ◌≤◌, List, ◌++◌, vec_len, vec_capacity, MatchResult}
use Rattle.std.specs.List.{AllByRecursion, AllZip}
use Rattle.cts_outside.specs.Crews.{EndsAs}
use Rattle.cts_outside.proofs.thread_crew.run_in.Given as goal

abbrev pub invariant-jobs : goal.invariant-jobs
invariant-jobs g l = record {
  starts : (done : List _) × (done ++ l.jobs.items ≡ l.fn.jobs.items)
      × AllZip (λ job s. MatchResult s (λ h. h.promise.job.value ≡ job) (λ end. EndsAs g.J.Job.is_cancelled g.J.Job.works_to g.J.Job.cancels_to job end)) done l.starts.items;
  ready : AllByRecursion g.J.Job.is_ready l.jobs.items;
  room : vec_len l.starts + vec_len l.jobs ≤ vec_capacity l.starts;
  number : l.number + vec_len l.jobs ≤ vec_len l.fn.jobs;
  count : vec_len l.starts + vec_len l.jobs ≡ vec_len l.fn.jobs;
}

abbrev pub decreases-jobs : goal.decreases-jobs
decreases-jobs g l = vec_len l.jobs

abbrev pub invariant-starts : goal.invariant-starts
invariant-starts g l = record {
  ends : (done rest : List _) × (done ++ rest ≡ l.fn.jobs.items) × AllZip (EndsAs g.J.Job.is_cancelled g.J.Job.works_to g.J.Job.cancels_to) done l.ends.items
      × AllZip (λ job s. MatchResult s (λ h. h.promise.job.value ≡ job) (λ end. EndsAs g.J.Job.is_cancelled g.J.Job.works_to g.J.Job.cancels_to job end)) rest l.starts.items;
  room : vec_len l.ends + vec_len l.starts ≤ vec_capacity l.ends;
}

abbrev pub decreases-starts : goal.decreases-starts
decreases-starts g l = vec_len l.starts
