use Rattle.std.proofs.Common.{◌≡◌, ◌+◌, length}
use Rattle.cts_def.specs.Packets.{items_in}
use Rattle.cts_run.proofs.halt.lines.items_in.Given as goal

abbrev pub invariant-packets : goal.invariant-packets
invariant-packets l = l.items + items_in l.left ≡ items_in l.fn.packets

abbrev pub decreases-packets : goal.decreases-packets
decreases-packets l = length l.left
