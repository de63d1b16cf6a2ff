use Rattle.std.proofs.Common.{arith}
use Rattle.std.proofs.lemmas.Grind.{common_steps}
use Rattle.cts_cmd.proofs.write.write_items.Goals as goal

pub returns : goal.returns
returns c = grind (arith, common_steps)

pub loop-item-preserved : goal.loop-item-preserved
loop-item-preserved c = grind (arith, common_steps)

pub write_param-requires-clause-start : goal.write_param-requires-clause-start
write_param-requires-clause-start c = grind (arith, common_steps)

pub write_param-requires-clause-within : goal.write_param-requires-clause-within
write_param-requires-clause-within c = grind (arith, common_steps)
