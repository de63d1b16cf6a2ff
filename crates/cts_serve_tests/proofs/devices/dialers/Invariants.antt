use Rattle.std.proofs.Common.{◌≡◌, length}
use Rattle.std.specs.List.{AllByRecursion}
use Rattle.cts_server.specs.Places.{IsThere}
use Rattle.cts_serve_tests.proofs.devices.dialers.Given as goal

-- so many stand in their places so far
abbrev pub invariant-loop-place : goal.invariant-loop-place
invariant-loop-place l = (length l.out.items ≡ l.place) × AllByRecursion IsThere l.out.items
