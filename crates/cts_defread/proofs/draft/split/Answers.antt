use Rattle.std.proofs.Common.{arith}
use Rattle.std.proofs.lemmas.Grind.{common_steps}
use Rattle.cts_defread.proofs.draft.split.Goals as goal

pub loop-drafted-preserved : goal.loop-drafted-preserved
loop-drafted-preserved c = grind (arith, common_steps)
