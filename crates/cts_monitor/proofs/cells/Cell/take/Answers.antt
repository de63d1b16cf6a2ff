use Rattle.std.proofs.Common.{subst}
use Rattle.cts_def.specs.Items.{IsSoundItem}
use Rattle.cts_monitor.proofs.cells.Cell.take.Goals as goal

pub take-change-requires-clause-number : goal.take-change-requires-clause-number
take-change-requires-clause-number c = c.requires.can.number (subst IsSoundItem c.item.view_is c.item.invariant)
