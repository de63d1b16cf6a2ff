use Rattle.std.proofs.Common.{arith}
use Rattle.std.proofs.lemmas.Grind.{common_steps}
use Rattle.cts_server.proofs.places.take_at.Goals as goal

pub unreachable-unreachable : goal.unreachable-unreachable
unreachable-unreachable g c = grind (arith, common_steps)

pub returns-clause-stood : goal.returns-clause-stood
returns-clause-stood g c = grind (arith, common_steps)

pub returns-clause-others : goal.returns-clause-others
returns-clause-others g c = grind (arith, common_steps)
