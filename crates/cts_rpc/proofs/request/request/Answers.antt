use Rattle.std.proofs.Common.{rules}
use Rattle.cts_rpc.proofs.request.request.Goals as goal

pub returns : goal.returns
returns c = search rules
