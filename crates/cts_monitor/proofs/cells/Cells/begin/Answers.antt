use Rattle.std.proofs.Common.{arith}
use Rattle.std.proofs.lemmas.Grind.{common_steps}
use Rattle.cts_monitor.proofs.cells.Cells.begin.Goals as goal

pub loop-item-preserved : goal.loop-item-preserved
loop-item-preserved c = record { kept = grind (arith, common_steps) }

pub returns : goal.returns
returns c = grind (arith, common_steps)
