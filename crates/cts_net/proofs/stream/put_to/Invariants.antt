use Rattle.std.proofs.Common.{◌≤◌, length, take}
use Rattle.std.specs.Io.KnownBytes.{Appends}
use Rattle.cts_net.proofs.stream.put_to.Given as goal

-- the bytes before the place are written
abbrev pub invariant-writes : goal.invariant-writes
invariant-writes g l = record {
  within : l.at ≤ length l.bytes;
  written : Appends (g.S.Write.contents l.initial.peer) (g.S.Write.contents l.peer) (take l.at l.bytes);
}
