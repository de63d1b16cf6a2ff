use Rattle.cts_bits.proofs.FieldBits.{last_byte}
use Rattle.cts_bits.proofs.place.Place.reach.Goals as goal

pub returns-in-Big-clause-least : goal.returns-in-Big-clause-least
returns-in-Big-clause-least c = let p = c.args.self.now in last_byte p.order p.offset p.bits p.some_bits

pub returns-in-Little-clause-least : goal.returns-in-Little-clause-least
returns-in-Little-clause-least c = let p = c.args.self.now in last_byte p.order p.offset p.bits p.some_bits
