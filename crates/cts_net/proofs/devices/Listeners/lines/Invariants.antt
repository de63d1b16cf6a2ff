use Rattle.cts_net.proofs.Unused.{seen}
use Rattle.cts_net.specs.Devices.{AreUnused}
use Rattle.cts_net.proofs.devices.Listeners.lines.Given as goal

-- so many dialers stand in their places so far
abbrev pub invariant-loop-place : goal.invariant-loop-place
invariant-loop-place g l = AreUnused seen l.place l.lines.items
