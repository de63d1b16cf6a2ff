use Rattle.cts_base.proofs.PrintUnique.{one_print}
use Rattle.cts_base.proofs.laws.decimal_has_one_print.Goals as goal

pub returns : goal.returns
returns c = one_print
