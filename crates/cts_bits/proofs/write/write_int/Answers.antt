use Rattle.std.proofs.Common.{◌∙◌, w64}
use Rattle.std.proofs.lemmas.Int.{to_z-of_z}
use Rattle.cts_bits.specs.Fields.{field}
use Rattle.cts_bits.proofs.Runs.{field_at-lt}
use Rattle.cts_bits.proofs.Signs.{twos_complement-same}
use Rattle.cts_bits.proofs.write.write_int.Goals as goal

pub returns-clause-same : goal.returns-clause-same
returns-clause-same c =
    let p = c.args.place.now in
    λ e. c.write_uint.ensures.same
    (twos_complement-same p.bits c.unsigned.result (field p c.args.buffer.now) (rw c.bits.ensures.size at c.unsigned.ensures.fits)
    (field_at-lt p.order p.offset p.bits c.args.buffer.now) (rw c.bits.ensures.size at c.unsigned.ensures.value ∙ to_z-of_z w64 c.args.value c.ranges.value ∙ e))
