use Rattle.cts_conv_laws.proofs.Fractions.{decimal_texts_mean, fixed_digits_mean}
use Rattle.cts_conv_laws.proofs.decimal_texts_mean_their_number.Goals as goal

pub returns : goal.returns
returns c = record { digits = fixed_digits_mean; formatted = decimal_texts_mean }
