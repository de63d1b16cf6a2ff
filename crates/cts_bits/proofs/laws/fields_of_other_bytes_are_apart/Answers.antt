use Rattle.cts_bits.proofs.FieldBits.{apart_by_bytes, apart-swap}
use Rattle.cts_bits.proofs.laws.fields_of_other_bytes_are_apart.Goals as goal

pub returns-clause-forth : goal.returns-clause-forth
returns-clause-forth c = apart_by_bytes c.args.first.now c.args.second.now c.requires

pub returns-clause-back : goal.returns-clause-back
returns-clause-back c = apart-swap c.args.first.now c.args.second.now (apart_by_bytes c.args.first.now c.args.second.now c.requires)
