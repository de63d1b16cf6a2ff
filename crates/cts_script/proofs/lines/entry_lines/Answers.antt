use Rattle.std.proofs.Common.{rules}
use Rattle.cts_script.proofs.lines.entry_lines.Goals as goal

pub returns : goal.returns
returns c = search rules
