use Rattle.cts_conv_laws.proofs.Numerals.{digits_mean, no_other_digits}
use Rattle.cts_conv_laws.proofs.digits_mean_their_number.Goals as goal

pub returns : goal.returns
returns c = record { read = digits_mean; alone = no_other_digits }
