use Rattle.std.proofs.Common.{◌≡◌, ◌++◌, ◌+◌, ◌≤◌, map, vec_len, vec_capacity}
use Rattle.cts_server.proofs.running.give_back.Given as goal

abbrev pub invariant-jobs : goal.invariant-jobs
invariant-jobs g l = record {
  jobs : l.tasks.items ++ map (λ j. record { by = j.by; work = j.work }) l.jobs.items ≡ map (λ j. record { by = j.by; work = j.work }) l.fn.jobs.items;
  room : vec_len l.tasks + vec_len l.jobs ≤ vec_capacity l.tasks;
}

abbrev pub decreases-jobs : goal.decreases-jobs
decreases-jobs g l = vec_len l.jobs
