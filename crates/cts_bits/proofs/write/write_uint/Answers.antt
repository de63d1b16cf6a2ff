use Rattle.std.proofs.Common.{◌≡◌, ◌-◌, ◌∙◌, List, ℕ, length, refl, ap, arith, slice_range}
use borrow.Rule.Slice.PartMut.{put_mid}
use Rattle.cts_bits.specs.Fields.{KeepsOtherBits, reach}
use Rattle.cts_bits.specs.Places.{span}
use Rattle.cts_bits.specs.Windows.{number_in, replaced, tail_of}
use Rattle.cts_bits.proofs.FieldBits.{field_apart}
use Rattle.cts_bits.proofs.Runs.{length-window, span_le, span_le_reach, window}
use Rattle.cts_bits.proofs.Writes.{IsWritten, after, after-same, bit-after, field-after, fits_window, length-after, nine_bytes, part_bytes}
use Rattle.cts_bits.proofs.write.write_uint.Goals as goal

pub replaced-number-requires-clause-number : goal.replaced-number-requires-clause-number
replaced-number-requires-clause-number c =
    let p = c.args.place.now in
    let front = span_le_reach p.order p.offset p.bits p.some_bits p.after_start in
    let f : c.first-first.result ≡ reach p - span p.offset p.bits = omega arith in
    let same : slice_range c.args.buffer.now c.first-first.result c.reach.result ≡ window p.order p.offset p.bits c.args.buffer.now = rw (f, c.reach.ensures.value) refl in
    let len = length-window p.order p.offset p.bits c.args.buffer.now front c.requires.fits in
    nine_bytes c.number_in.result (span p.offset p.bits) (span_le p.offset p.bits p.at_most_64) (rw (same, len) at c.number_in.ensures.fits)

pub put-requires : goal.put-requires
put-requires c =
    let p = c.args.place.now in
    let front = span_le_reach p.order p.offset p.bits p.some_bits p.after_start in
    let f : c.first-first.result ≡ reach p - span p.offset p.bits = omega arith in
    let same : slice_range c.args.buffer.now c.first-first.result c.reach.result ≡ window p.order p.offset p.bits c.args.buffer.now = rw (f, c.reach.ensures.value) refl in
    let len = length-window p.order p.offset p.bits c.args.buffer.now front c.requires.fits in
    let small = rw same at c.number_in.ensures.fits in
    let fits = fits_window p.order p.offset p.bits c.args.value c.number_in.result (window p.order p.offset p.bits c.args.buffer.now) p.some_bits c.requires.spelled len small in
    rw (same, c.replaced-number.ensures, c.tail.ensures.value, c.bits.ensures.size) fits

pub returns : goal.returns
returns c =
    let p = c.args.place.now in
    let old : List ℕ = c.args.buffer.now in
    let ys : List ℕ = c.put.new.window in
    let front = span_le_reach p.order p.offset p.bits p.some_bits p.after_start in
    let f : c.first-first.result ≡ reach p - span p.offset p.bits = omega arith in
    let count : c.reach.result - c.first-first.result ≡ span p.offset p.bits = omega arith in
    let same : slice_range old c.first-first.result c.reach.result ≡ window p.order p.offset p.bits old = rw (f, c.reach.ensures.value) refl in
    let was : c.number_in.result ≡ number_in p.order (window p.order p.offset p.bits old) = c.number_in.ensures.value ∙ rw (c.order-order.ensures, same) refl in
    let now : number_in p.order ys ≡ replaced (number_in p.order (window p.order p.offset p.bits old)) (tail_of p.offset p.bits) p.bits c.args.value =
    rw c.order-order.ensures at c.put.ensures ∙ c.replaced-number.ensures ∙ rw (was, c.tail.ensures.value, c.bits.ensures.size) refl in
    let len : length ys ≡ span p.offset p.bits =
    c.put.auto.window ∙ ap length same ∙ length-window p.order p.offset p.bits old front c.requires.fits in
    let w : IsWritten p.order p.offset p.bits c.args.value old ys = record {
      some = p.some_bits;
      after_start = p.after_start;
      fits = c.requires.fits;
      spelled = c.requires.spelled;
      old_bytes = rw same at c.number_in.ensures.bytes;
      new_bytes = part_bytes c.first-first.result (c.reach.result - c.first-first.result) old ys (λ i. omega (arith, c.type_inv.buffer i)) (omega (arith, c.requires.fits));
      len = len;
      number = now;
    } in
    let shape : put_mid c.first-first.result (c.reach.result - c.first-first.result) old ys ≡ after p.order p.offset p.bits old ys = rw (count, f) refl in
    let kept : KeepsOtherBits p old (after p.order p.offset p.bits old ys) = record {
      len = length-after p.order p.offset p.bits c.args.value old ys w;
      others = λ k none. bit-after p.order p.offset p.bits c.args.value old ys w k (λ j lt e. none (j, lt, e));
    } in
    record {
      value = rw shape (field-after p.order p.offset p.bits c.args.value old ys w);
      others = rw shape kept;
      apart = λ q apart fits. rw shape (field_apart p q old (after p.order p.offset p.bits old ys) kept apart fits);
      same = λ e. rw shape (after-same p.order p.offset p.bits c.args.value old ys w e);
    }
