use Rattle.std.proofs.Common.{rules}
use Rattle.cts_bits.proofs.read.read_bytes.Goals as goal

pub returns : goal.returns
returns c = search rules
