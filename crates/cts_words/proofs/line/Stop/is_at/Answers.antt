use Rattle.std.proofs.Common.{rules}
use Rattle.cts_words.proofs.line.Stop.is_at.Goals as goal

pub returns-in-Byte : goal.returns-in-Byte
returns-in-Byte c = search rules
