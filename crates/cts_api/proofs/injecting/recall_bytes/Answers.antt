use Rattle.std.proofs.Common.{arith}
use Rattle.cts_api.proofs.injecting.recall_bytes.Goals as goal

pub returns : goal.returns
returns c k = let small = c.type_inv.bytes k in omega (arith, small)
