use Rattle.cts_conv_laws.proofs.Texts.{plain_wholes_mean, whole_texts_mean}
use Rattle.cts_conv_laws.proofs.whole_texts_mean_their_number.Goals as goal

pub returns : goal.returns
returns c = record { formatted = whole_texts_mean; plain = plain_wholes_mean }
