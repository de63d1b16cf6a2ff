use Rattle.cts_conv_laws.proofs.Blocks.{plain_texts_mean_their_bytes}
use Rattle.cts_conv_laws.proofs.plain_texts_mean_their_bytes.Goals as goal

pub returns : goal.returns
returns c = plain_texts_mean_their_bytes
