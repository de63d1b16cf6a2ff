use Rattle.std.proofs.Common.{◌≡◌, ◌∷◌, ◌++◌, ◌∙◌, sym, ap, length, map, [], arith}
use Rattle.std.proofs.lemmas.Grind.{common_steps}
use Rattle.std.specs.Vec.Iter.{into_iter_items}
use Rattle.cts_words.specs.Refusals.{or_else}
use Rattle.cts_plan.specs.Completing.{first_step_fault}
use Rattle.cts_plan.specs.Standing.{use_of}
use Rattle.cts_plan.proofs.Lists.{moved}
use Rattle.cts_plan.proofs.completing.uses_of.Goals as goal

pub loop-step-preserved : goal.loop-step-preserved
loop-step-preserved c =
    let at = c.loop-step in
    let d = c.args.definitions.now in
    let ts = c.args.targets.now in
    let f = use_of d ts in
    let rest = into_iter_items c.next.new.self in
    let steps : into_iter_items at.step-iterator ≡ c.in-Some.step ∷ rest = c.in-Some.ensures.steps.0 in (
      moved at.uses (map f (into_iter_items at.step-iterator)) (map f rest) c.push.new.self (map f c.args.steps) (f c.in-Some.step) at.invariant.0
          (ap (map f) steps) (c.in_ok-push.ensures.pushed ∙ ap (λ u. at.uses ++ u ∷ []) c.in_ok-use_of.ensures.value),
      ap (λ o. or_else o (first_step_fault d ts rest)) (sym c.in_ok-use_of.ensures.settled) ∙ sym (ap (first_step_fault d ts) steps) ∙ at.invariant.1,
      let was = at.invariant.2 in
          let gone = c.in-Some.ensures.steps.1 in
          let short = ap length steps in
          omega arith,
    )

pub returns-in_err-use_of-clause-settled : goal.returns-in_err-use_of-clause-settled
returns-in_err-use_of-clause-settled c = grind (arith, common_steps)

pub returns-in_err-push-clause-settled : goal.returns-in_err-push-clause-settled
returns-in_err-push-clause-settled c = grind (arith, common_steps)

pub returns-clause-settled : goal.returns-clause-settled
returns-clause-settled c = grind (arith, common_steps)

pub returns-clause-value : goal.returns-clause-value
returns-clause-value c = grind (arith, common_steps)
