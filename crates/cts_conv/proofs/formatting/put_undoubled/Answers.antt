use Rattle.std.proofs.Common.{arith}
use Rattle.std.proofs.lemmas.Grind.{common_steps}
use Rattle.cts_conv.proofs.formatting.put_undoubled.Goals as goal

pub loop-c-preserved : goal.loop-c-preserved
loop-c-preserved c = grind (arith, common_steps)

pub returns : goal.returns
returns c = grind (arith, common_steps)

pub loop-c-smaller : goal.loop-c-smaller
loop-c-smaller c = grind (arith, common_steps)
