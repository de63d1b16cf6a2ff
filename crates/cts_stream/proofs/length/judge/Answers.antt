use Rattle.std.proofs.Common.{rules}
use Rattle.cts_stream.proofs.length.judge.Goals as goal

pub returns : goal.returns
returns c = search rules
