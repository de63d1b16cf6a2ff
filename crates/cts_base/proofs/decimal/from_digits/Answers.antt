use Rattle.std.proofs.Common.{rules}
use Rattle.cts_base.proofs.decimal.from_digits.Goals as goal

pub returns : goal.returns
returns c = search rules
