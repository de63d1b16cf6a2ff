use Rattle.std.proofs.Common.{arith}
use Rattle.std.proofs.lemmas.Grind.{common_steps}
use Rattle.cts_plan.proofs.completing.chain_of.Goals as goal

pub returns-clause-settled : goal.returns-clause-settled
returns-clause-settled c = grind (arith, common_steps)

pub returns-clause-value : goal.returns-clause-value
returns-clause-value c = grind (arith, common_steps)

pub returns-in_err-uses-clause-settled : goal.returns-in_err-uses-clause-settled
returns-in_err-uses-clause-settled c = grind (arith, common_steps)

pub returns-in_err-add_unless-clause-settled : goal.returns-in_err-add_unless-clause-settled
returns-in_err-add_unless-clause-settled c = grind (arith, common_steps)
