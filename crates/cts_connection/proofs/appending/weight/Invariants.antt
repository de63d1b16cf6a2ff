use Rattle.std.proofs.Common.{◌≡◌, ◌+◌, length}
use Rattle.cts_entry.specs.Histories.{bytes_in}
use Rattle.cts_framing.specs.Packets.{capped}
use Rattle.cts_connection.proofs.appending.weight.Given as goal

abbrev pub invariant-left : goal.invariant-left
invariant-left l = (capped (l.bytes + bytes_in l.left) ≡ capped (bytes_in l.entries)) × (capped l.bytes ≡ l.bytes)

abbrev pub decreases-left : goal.decreases-left
decreases-left l = length l.left
