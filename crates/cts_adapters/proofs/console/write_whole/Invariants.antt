use Rattle.std.proofs.Common.{◌≤◌, length, take}
use Rattle.std.specs.Io.KnownBytes.{Appends}
use Rattle.cts_adapters.proofs.console.write_whole.Given as goal

-- the bytes before the place are written
abbrev pub invariant-tries : goal.invariant-tries
invariant-tries g l = record {
  within : l.at ≤ length l.bytes;
  written : Appends (g.W.Write.contents l.initial.out) (g.W.Write.contents l.out) (take l.at l.bytes);
}
