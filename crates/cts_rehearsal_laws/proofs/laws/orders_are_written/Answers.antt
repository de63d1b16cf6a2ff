use Rattle.cts_rehearsal_laws.proofs.Sending.{orders_are_checked, orders_are_sent, refused_order_leaves_nothing}
use Rattle.cts_rehearsal_laws.proofs.Writing.{writes_are_enabled}
use Rattle.cts_rehearsal_laws.proofs.laws.orders_are_written.Goals as goal

pub returns-clause-checked : goal.returns-clause-checked
returns-clause-checked c = orders_are_checked

pub returns-clause-sent : goal.returns-clause-sent
returns-clause-sent c = orders_are_sent

pub returns-clause-written : goal.returns-clause-written
returns-clause-written c = writes_are_enabled

pub returns-clause-refused : goal.returns-clause-refused
returns-clause-refused c = refused_order_leaves_nothing
