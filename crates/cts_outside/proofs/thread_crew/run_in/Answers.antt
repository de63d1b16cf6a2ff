use Rattle.std.proofs.Common.{◌≡◌, ◌++◌, ◌∷◌, [], rules, arith, subst, sym, Result, Ok, Err, MatchResult}
use Rattle.std.specs.List.{AllByRecursion}
use Rattle.cts_outside.specs.Crews.{EndsAs}
use Rattle.std.proofs.lemmas.Grind.{common_steps}
use Rattle.cts_outside.proofs.InOrder.{ended_more, joined_none, joined_more, joined_all}
use Rattle.cts_outside.proofs.thread_crew.run_in.Goals as goal
use Rattle.cts_outside.proofs.thread_crew.run_in.Goals.{in-Ok-take_first, in-Err}

from_handle : {J E H : Type 0} (R : J → E → Type 0) (V : H → J) (job : J) (start : Result H E) (handle : H) (joined end : E)
    → MatchResult start (λ h. V h ≡ job) (λ e. R job e) → start ≡ Ok handle → R (V handle) joined → end ≡ joined → R job end
from_handle R V job start handle joined end q is r e =
    let at_handle = subst (λ (s : Result _ _). MatchResult s (λ h. V h ≡ job) (λ e. R job e)) is q in
    subst (λ (x : _). R job x) (sym e) (subst (λ (j : _). R j joined) at_handle r)

from_end : {J E H : Type 0} (R : J → E → Type 0) (V : H → J) (job : J) (start : Result H E) (given end : E)
    → MatchResult start (λ h. V h ≡ job) (λ e. R job e) → start ≡ Err given → end ≡ given → R job end
from_end R V job start given end q is e =
    subst (λ (x : _). R job x) (sym e) (subst (λ (s : Result _ _). MatchResult s (λ h. V h ≡ job) (λ e. R job e)) is q)

pub jobs-preserved : goal.jobs-preserved
jobs-preserved g c =
    let kept = c.jobs.invariant in
    let pushed : c.push.new.self.items ≡ c.jobs.starts.items ++ c.begin.result ∷ [] = search rules in
    let ready = subst (λ (js : _). AllByRecursion g.J.Job.is_ready js) c.take_first-job.ensures kept.ready in
    record {
      starts = rw pushed (ended_more _ kept.starts.0 _ _ _ _ _ _ kept.starts.1 c.take_first-job.ensures kept.starts.2 c.begin.ensures);
      ready = ready.1;
      room = grind (arith, common_steps);
      number = grind (arith, common_steps);
      count = grind (arith, common_steps);
    }

pub starts-preserved : goal.starts-preserved
starts-preserved g c =
    let kept = c.starts.invariant in
    let pushed : c.push-in-starts.new.self.items ≡ c.starts.ends.items ++ c.match-take_first.end ∷ [] = search rules in
    record {
      ends = rw pushed (joined_more _ _ kept.ends.0 kept.ends.1 _ _ _ _ _ _ kept.ends.2 kept.ends.3 kept.ends.4 c.take_first.ensures
          (λ job q. elim c.match-take_first.branch [
            | in-Ok-take_first w ↦ from_handle (EndsAs g.J.Job.is_cancelled g.J.Job.works_to g.J.Job.cancels_to) (λ h. h.promise.job.value) job _ _ _ _ q w.in-Ok-take_first.is w.join-end.ensures w.end-is
            | in-Err w ↦ from_end (EndsAs g.J.Job.is_cancelled g.J.Job.works_to g.J.Job.cancels_to) (λ h. h.promise.job.value) job _ _ _ q w.in-Err.is w.end-is
          ]));
      room = grind (arith, common_steps);
    }

pub returns-clause-ends : goal.returns-clause-ends
returns-clause-ends g c =
    let kept = c.starts.invariant in
    let none : c.starts.starts.items ≡ [] = grind (arith, common_steps) in
    joined_all _ _ kept.ends.0 kept.ends.1 _ _ _ none kept.ends.2 kept.ends.3 kept.ends.4

pub unwrap-requires : goal.unwrap-requires
unwrap-requires g c = grind (arith, common_steps)

pub unwrap-requires-in-starts : goal.unwrap-requires-in-starts
unwrap-requires-in-starts g c = grind (arith, common_steps)

pub overflow_add-number : goal.overflow_add-number
overflow_add-number g c = grind (arith, common_steps)

pub jobs-smaller : goal.jobs-smaller
jobs-smaller g c = grind (arith, common_steps)

pub starts-smaller : goal.starts-smaller
starts-smaller g c = grind (arith, common_steps)

pub take_first-job-requires : goal.take_first-job-requires
take_first-job-requires g c = grind (arith, common_steps)

pub take_first-requires : goal.take_first-requires
take_first-requires g c = grind (arith, common_steps)

pub jobs-init : goal.jobs-init
jobs-init g c = search rules

pub starts-init : goal.starts-init
starts-init g c =
    let kept = c.jobs.invariant in
    let none : c.jobs.jobs.items ≡ [] = grind (arith, common_steps) in
    let fresh : c.in-Ok-with_capacity.ends.items ≡ [] = search rules in
    record {
      ends = joined_none _ _ kept.starts.0 _ _ _ _ none fresh kept.starts.1 kept.starts.2;
      room = grind (arith, common_steps);
    }
