use Rattle.std.proofs.Common.{arith}
use Rattle.std.proofs.lemmas.Grind.{common_steps}
use Rattle.cts_methods.proofs.reading.read_asking.Goals as goal

pub returns-in_ok-item_in-in-Value : goal.returns-in_ok-item_in-in-Value
returns-in_ok-item_in-in-Value c = grind (arith, common_steps)

pub returns-in_ok-names_in-in-Enable : goal.returns-in_ok-names_in-in-Enable
returns-in_ok-names_in-in-Enable c = grind (arith, common_steps)

pub returns-in_ok-order_in-in-Command : goal.returns-in_ok-order_in-in-Command
returns-in_ok-order_in-in-Command c = grind (arith, common_steps)

pub returns-in_ok-may_be_natural-in-Events : goal.returns-in_ok-may_be_natural-in-Events
returns-in_ok-may_be_natural-in-Events c = grind (arith, common_steps)

pub returns-in-Received : goal.returns-in-Received
returns-in-Received c = grind (arith, common_steps)

pub returns-in-Sent : goal.returns-in-Sent
returns-in-Sent c = grind (arith, common_steps)

pub returns-in-ChooseSet : goal.returns-in-ChooseSet
returns-in-ChooseSet c = grind (arith, common_steps)

pub returns-in-Interface : goal.returns-in-Interface
returns-in-Interface c = grind (arith, common_steps)
