use Rattle.std.proofs.Common.{◌≡◌, ◌-◌, sym, ◌∙◌, refl, arith, slice_range}
use Rattle.cts_bits.specs.Fields.{reach}
use Rattle.cts_bits.specs.Places.{span}
use Rattle.cts_bits.specs.Windows.{number_in}
use Rattle.cts_bits.proofs.Runs.{field_in_window, window}
use Rattle.cts_bits.proofs.read.read_uint.Goals as goal

pub returns-clause-value : goal.returns-clause-value
returns-clause-value c =
    let p = c.args.place.now in
    let f : c.first.result ≡ reach p - span p.offset p.bits = omega arith in
    let same : slice_range c.args.buffer.now c.first.result c.reach.result ≡ window p.order p.offset p.bits c.args.buffer.now = rw (f, c.reach.ensures.value) refl in
    let w : c.number_in.result ≡ number_in p.order (window p.order p.offset p.bits c.args.buffer.now) =
    c.number_in.ensures.value ∙ rw (c.order.ensures, same) refl in
    let small = rw same at c.number_in.ensures.bytes in
    let e = field_in_window p.order p.offset p.bits c.args.buffer.now p.some_bits p.after_start c.requires small in
    c.cut.ensures ∙ rw (w, c.tail.ensures.value, c.bits.ensures.size) (sym e)
