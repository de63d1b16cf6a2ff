use Rattle.std.proofs.Common.{arith}
use Rattle.std.proofs.lemmas.Grind.{common_steps}
use Rattle.cts_extract.proofs.times.put_micros.Goals as goal

pub returns : goal.returns
returns c = grind (arith, common_steps)
