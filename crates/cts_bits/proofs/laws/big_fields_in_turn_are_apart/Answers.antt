use Rattle.cts_bits.proofs.FieldBits.{apart_big, apart-swap}
use Rattle.cts_bits.proofs.laws.big_fields_in_turn_are_apart.Goals as goal

pub returns-clause-forth : goal.returns-clause-forth
returns-clause-forth c = apart_big c.args.first.now c.args.second.now c.requires.first_is_big c.requires.second_is_big c.requires.in_turn

pub returns-clause-back : goal.returns-clause-back
returns-clause-back c = apart-swap c.args.first.now c.args.second.now (apart_big c.args.first.now c.args.second.now c.requires.first_is_big c.requires.second_is_big c.requires.in_turn)
