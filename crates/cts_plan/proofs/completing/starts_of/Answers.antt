use Rattle.std.proofs.Common.{arith}
use Rattle.std.proofs.lemmas.Grind.{common_steps}
use Rattle.cts_plan.proofs.completing.starts_of.Goals as goal

pub returns : goal.returns
returns c = grind (arith, common_steps)

pub loop-packet-init : goal.loop-packet-init
loop-packet-init c = grind (arith, common_steps)
