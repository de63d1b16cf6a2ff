use Rattle.std.proofs.Common.{rules}
use Rattle.cts_defstatement.proofs.numbers.greatest_number.Goals as goal

pub returns-in-Int : goal.returns-in-Int
returns-in-Int c = search rules

pub returns-in-Uint : goal.returns-in-Uint
returns-in-Uint c = search rules

pub returns-in_default : goal.returns-in_default
returns-in_default c = search rules

pub returns-then-not-is_size : goal.returns-then-not-is_size
returns-then-not-is_size c = search rules
