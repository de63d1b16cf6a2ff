use Rattle.std.proofs.Common.{◌/◌, ◌^◌, arith}
use Rattle.cts_bits.proofs.Shifts.{masked}
use Rattle.cts_bits.proofs.window.cut.Goals as goal

pub returns : goal.returns
returns c = masked (c.args.number / 2 ^ c.args.tail) c.args.bits (omega arith)
