use Rattle.std.proofs.Common.{◌≡◌, ◌++◌, take}
use Rattle.std.specs.List.{flat_map}
use Rattle.cts_extract.specs.Columns.{cell_of}
use Rattle.cts_extract.proofs.cells.put_cells.Given as goal

abbrev pub invariant-loop-number : goal.invariant-loop-number
invariant-loop-number l = l.out.items ≡ l.fn.out.items ++ flat_map (cell_of l.kind l.packet l.bytes) (take l.number-index l.numbers)
