use Rattle.std.proofs.Common.{◌<◌, ◌≤◌, ◌-◌, ℕ, List}
use Rattle.cts_entry.specs.declared.entry.Entry.{Entry}
use Rattle.cts_worker.specs.Followed.{EndedTell, IsDone}
use Rattle.cts_worker.proofs.progress.Progress.have_ended.Given as goal

abbrev pub invariant-workers : goal.invariant-workers
invariant-workers l = record {
  within : l.by ≤ 32;
  done : (before : List Entry) → EndedTell l.self.ended before → (m : ℕ) → m < l.by → IsDone l.site l.but m before;
}

abbrev pub decreases-workers : goal.decreases-workers
decreases-workers l = 32 - l.by
