use Rattle.std.proofs.Common.{rules}
use Rattle.cts_conv.proofs.formatting.rounded.Goals as goal

pub returns : goal.returns
returns c = search rules
