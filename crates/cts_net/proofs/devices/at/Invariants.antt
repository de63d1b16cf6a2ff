use Rattle.std.proofs.Common.{◌≡◌, length}
use Rattle.cts_net.proofs.devices.at.Given as goal

-- so many stand so far
abbrev pub invariant-loop : goal.invariant-loop
invariant-loop l = length l.all.items ≡ l.counter
