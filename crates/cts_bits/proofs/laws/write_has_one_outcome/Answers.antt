use Rattle.std.proofs.Common.{arith}
use Rattle.cts_bits.proofs.Outcomes.{one_outcome}
use Rattle.cts_bits.proofs.laws.write_has_one_outcome.Goals as goal

pub returns : goal.returns
returns c =
    one_outcome c.args.place.now c.args.old.now c.args.one.now c.args.other.now c.requires.fits c.requires.one c.requires.other c.requires.same
    (λ i. omega (arith, c.type_inv.one i)) (λ i. omega (arith, c.type_inv.other i))
