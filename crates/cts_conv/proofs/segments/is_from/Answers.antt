use Rattle.std.proofs.Common.{rules}
use Rattle.cts_conv.proofs.segments.is_from.Goals as goal

pub returns : goal.returns
returns c = search rules
