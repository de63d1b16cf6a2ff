use Rattle.std.proofs.Common.{rules}
use Rattle.cts_defstatement.proofs.items.text_parameter.Goals as goal

pub returns : goal.returns
returns c = search rules
