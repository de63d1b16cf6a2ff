use Rattle.std.proofs.Common.{arith}
use Rattle.std.proofs.lemmas.Grind.{common_steps}
use Rattle.cts_reader.proofs.causes.first_that_holds.Goals as goal

pub returns : goal.returns
returns c = grind (arith, common_steps)

pub returns-then-holds : goal.returns-then-holds
returns-then-holds c = grind (arith, common_steps)
