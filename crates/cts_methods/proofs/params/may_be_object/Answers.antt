use Rattle.std.proofs.Common.{arith}
use Rattle.std.proofs.lemmas.Grind.{common_steps}
use Rattle.cts_methods.proofs.params.may_be_object.Goals as goal

pub returns-in-empty : goal.returns-in-empty
returns-in-empty c = grind (arith, common_steps)

pub returns-in_default : goal.returns-in_default
returns-in_default c = grind (arith, common_steps)

pub returns-in_default-rest : goal.returns-in_default-rest
returns-in_default-rest c = grind (arith, common_steps)

pub returns-in_err-members : goal.returns-in_err-members
returns-in_err-members c = grind (arith, common_steps)
