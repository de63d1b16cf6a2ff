use Rattle.std.proofs.Common.{◌≡◌, ◌∙◌, ◌<◌, false, length, drop, arith}
use Rattle.std.proofs.lemmas.Grind.{common_steps}
use Rattle.cts_defstatement.specs.Forms.{begins_with}
use Rattle.cts_defstatement.proofs.Within.{within_after}
use Rattle.cts_defstatement.proofs.keyword.is_within.Goals as goal

pub loop-at-preserved : goal.loop-at-preserved
loop-at-preserved c =
    let within : c.loop-at.at < length c.args.word.now = omega arith in
    let none : begins_with c.args.text.now (drop c.loop-at.at c.args.word.now) ≡ false = grind (arith, common_steps) in
    within_after c.args.text.now c.args.word.now c.loop-at.at within none ∙ c.loop-at.invariant
