use Rattle.cts_bits.proofs.FieldBits.{field_by_bits}
use Rattle.cts_bits.proofs.laws.field_is_its_bits.Goals as goal

pub returns : goal.returns
returns c =
    let p = c.args.place.now in
    field_by_bits p.order p.offset p.bits c.args.buffer.now p.some_bits p.after_start c.requires
