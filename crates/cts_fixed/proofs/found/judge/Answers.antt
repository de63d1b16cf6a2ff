use Rattle.std.proofs.Common.{arith}
use Rattle.std.proofs.lemmas.Grind.{common_steps}
use Rattle.cts_fixed.proofs.found.judge.Goals as goal

pub returns-in-None : goal.returns-in-None
returns-in-None c = grind (arith, common_steps)

pub returns-then-len-gt-FRAME_LIMIT : goal.returns-then-len-gt-FRAME_LIMIT
returns-then-len-gt-FRAME_LIMIT c = grind (arith, common_steps)

pub returns-else-len-gt-FRAME_LIMIT : goal.returns-else-len-gt-FRAME_LIMIT
returns-else-len-gt-FRAME_LIMIT c = grind (arith, common_steps)
