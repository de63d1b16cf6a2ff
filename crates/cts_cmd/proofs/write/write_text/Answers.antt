use Rattle.std.proofs.Common.{arith}
use Rattle.std.proofs.lemmas.List.{length-drop, take_rest}
use Rattle.cts_cmd.proofs.Behind.{text_after}
use Rattle.cts_cmd.proofs.Parts.{text_from}
use Rattle.cts_cmd.proofs.write.write_text.Goals as goal

pub write_bytes-requires : goal.write_bytes-requires
write_bytes-requires c =
    let long = length-drop c.base-at.result c.args.buffer.now in
    let room = text_after c.args.item.now c.base-at.result _ c.requires.text c.requires.own c.base-at.ensures.room in
    rw take_rest (omega (arith, long, room, c.first_byte.ensures, c.requires.sized))

pub returns : goal.returns
returns c =
    text_from c.args.item.now c.args.bytes.now c.base-at.result c.first_byte.result c.args.buffer.now c.write_bytes.new.buffer c.base-at.ensures.value (omega (arith, c.base-at.ensures.room)) c.first_byte.ensures c.requires.own
    c.write_bytes.ensures (λ k. omega (arith, c.type_inv.buffer k))
