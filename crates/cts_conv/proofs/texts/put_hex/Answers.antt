use Rattle.std.proofs.Common.{arith}
use Rattle.std.proofs.lemmas.Grind.{common_steps}
use Rattle.cts_conv.proofs.texts.put_hex.Goals as goal

pub returns : goal.returns
returns c = grind (arith, common_steps)

pub unwrap-requires : goal.unwrap-requires
unwrap-requires c = grind (arith, common_steps)
