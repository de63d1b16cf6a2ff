use Rattle.cts_bits.proofs.Signs.{ones_are}
use Rattle.cts_bits.proofs.sign.all_ones.Goals as goal

pub returns : goal.returns
returns c = ones_are c.args.bits c.requires.some c.requires.at_most_64
