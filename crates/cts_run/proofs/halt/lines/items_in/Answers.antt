use Rattle.std.proofs.Common.{rules, arith}
use Rattle.std.proofs.lemmas.Grind.{common_steps}
use Rattle.cts_run.proofs.halt.lines.items_in.Goals as goal

pub returns : goal.returns
returns c = grind (arith, common_steps)

pub packets-preserved : goal.packets-preserved
packets-preserved c = search rules
