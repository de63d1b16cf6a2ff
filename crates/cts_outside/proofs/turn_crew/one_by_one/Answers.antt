use Rattle.std.proofs.Common.{◌≡◌, ◌++◌, ◌∷◌, [], rules, arith, subst, ◌∙◌, ap}
use Rattle.std.specs.List.{AllByRecursion}
use Rattle.std.proofs.lemmas.Grind.{common_steps}
use Rattle.cts_outside.proofs.InOrder.{ended_more, cancelled_more}
use Rattle.cts_outside.proofs.turn_crew.one_by_one.Goals as goal

pub jobs-preserved : goal.jobs-preserved
jobs-preserved g c =
    let kept = c.jobs.invariant in
    let pushed : c.push.new.self.items ≡ c.jobs.ends.items ++ c.end_of.result ∷ [] = search rules in
    let ready = subst (λ (js : _). AllByRecursion g.J.Job.is_ready js) c.take_first-job.ensures kept.ready in
    record {
      ends = rw pushed (ended_more _ kept.ends.0 _ _ _ _ _ _ kept.ends.1 c.take_first-job.ensures kept.ends.2 c.end_of.ensures.end);
      ready = ready.1;
      room = grind (arith, common_steps);
      number = grind (arith, common_steps);
      exact = rw pushed (cancelled_more _ _ 0 _ _ kept.exact (c.end_of.ensures.cancelled ∙ c.refuses.ensures ∙ ap ((g.W.Crew.seen c.args.crew.now).refused) (kept.count ∙ omega arith)));
      count = rw pushed (grind (arith, common_steps));
    }
