use Rattle.cts_base.proofs.PrintLemmas.{decimal_of-decimal_text}
use Rattle.cts_base.proofs.laws.printed_decimal_is_read.Goals as goal

pub returns : goal.returns
returns c = decimal_of-decimal_text
