use Rattle.std.proofs.Common.{rules}
use Rattle.cts_words.proofs.joiner.Joiner.finish.Goals as goal

pub returns : goal.returns
returns c = search rules
