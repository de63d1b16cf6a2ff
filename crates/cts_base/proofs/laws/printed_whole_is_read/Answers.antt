use Rattle.cts_base.proofs.PrintLemmas.{whole_of-signed_decimal}
use Rattle.cts_base.proofs.laws.printed_whole_is_read.Goals as goal

pub returns : goal.returns
returns c = whole_of-signed_decimal
