use Rattle.std.proofs.Common.{rules}
use Rattle.cts_script.proofs.texts.put_hex_word.Goals as goal

pub returns-then-is_empty : goal.returns-then-is_empty
returns-then-is_empty c = search rules
