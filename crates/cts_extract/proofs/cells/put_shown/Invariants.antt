use Rattle.std.proofs.Common.{◌≡◌, ◌++◌, take}
use Rattle.cts_extract.specs.Columns.{shown}
use Rattle.cts_extract.proofs.cells.put_shown.Given as goal

abbrev pub invariant-loop-byte : goal.invariant-loop-byte
invariant-loop-byte l = l.out.items ≡ l.fn.out.items ++ shown (take l.byte-index l.text)
