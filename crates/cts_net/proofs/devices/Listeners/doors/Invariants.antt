use Rattle.std.proofs.Common.{◌+◌, ◌*◌, drop}
use Rattle.std.specs.List.{AllByRecursion}
use Rattle.cts_net.proofs.Unused.{host_of, seen}
use Rattle.cts_net.proofs.devices.Listeners.doors.Given as goal
use Rattle.cts_net.specs.Devices.{AcceptsAt, AreUnused}

-- two doors for each router so far
abbrev pub invariant-loop-place : goal.invariant-loop-place
invariant-loop-place g l = AreUnused seen (2 * l.place) l.doors.items

-- and then so many for desks, which accept where requests are to be accepted
abbrev pub invariant-loop : goal.invariant-loop
invariant-loop g l = AreUnused seen (8 + l.counter) l.doors.items
    × AllByRecursion (AcceptsAt host_of l.self.desks.host.now) (drop 8 l.doors.items)
