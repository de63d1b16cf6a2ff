use Rattle.cts_rehearsal_laws.proofs.Asked.{orders_ask_for}
use Rattle.cts_rehearsal_laws.proofs.Requested.{orders_request}
use Rattle.cts_rehearsal_laws.proofs.laws.orders_ask_for_commands.Goals as goal

pub returns-clause-asks : goal.returns-clause-asks
returns-clause-asks c = orders_ask_for

pub returns-clause-request : goal.returns-clause-request
returns-clause-request c = orders_request
