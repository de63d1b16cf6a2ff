use Rattle.std.proofs.Common.{◌∙◌, ◌&&◌, ap, sym, subst, List, [], ◌∷◌, length, arith}
use Rattle.std.specs.Prelude.{IsTrue, nat_le}
use Rattle.std.specs.List.{list_any}
use Rattle.std.proofs.lemmas.List.{length-append}
use Rattle.cts_def.specs.Most.{most_protocols}
use Rattle.cts_plan.specs.Steps.{StepData, are_packets_last, step_reads, step_reads_packets}
use Rattle.cts_plan.proofs.Chained.{packets_last_more, room_for}
use Rattle.cts_plan.proofs.opened.Chain.push.Goals as goal

pub invariant_of-self-2 : goal.invariant_of-self-2
invariant_of-self-2 c =
    let steps = c.self.inside.steps in
    let pushed = c.in_ok-push.ensures.pushed in
    record {
      few =
          let room = room_for most_protocols (length steps) (ap (λ (ss : List StepData). nat_le most_protocols (length ss)) c.self.view_is ∙ c.requires.room) in
          let longer = ap length pushed ∙ length-append steps (c.args.step ∷ []) in
          grind arith;
      packets_last = subst (λ (ss : List StepData). IsTrue (are_packets_last ss)) (sym pushed)
          (packets_last_more steps c.args.step c.self.invariant.packets_last
          (ap (λ (ss : List StepData). step_reads c.args.step && list_any step_reads_packets ss) c.self.view_is ∙ c.requires.last));
    }
