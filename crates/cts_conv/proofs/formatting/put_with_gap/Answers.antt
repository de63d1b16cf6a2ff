use Rattle.std.proofs.Common.{arith}
use Rattle.std.proofs.lemmas.Grind.{common_steps}
use Rattle.cts_conv.proofs.formatting.put_with_gap.Goals as goal

pub returns-in_ok-put_times : goal.returns-in_ok-put_times
returns-in_ok-put_times c = grind (arith, common_steps)
