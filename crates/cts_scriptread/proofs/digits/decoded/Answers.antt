use Rattle.std.proofs.Common.{arith, sym}
use Rattle.cts_scriptread.proofs.DigitPairs.{none_read, pair_read, all_read}
use Rattle.cts_scriptread.proofs.digits.decoded.Goals as goal

pub loop-place-init : goal.loop-place-init
loop-place-init c = none_read c.args.text.now c.in_ok-bytes.bytes.items (let long = c.in_ok-bytes.ensures.len in let stored = c.in_ok-bytes.bytes.ok.0 in omega (arith, long, stored))

pub loop-place-preserved : goal.loop-place-preserved
loop-place-preserved c =
    let long = c.loop-place.invariant.long in
    let first = c.in_ok-bytes.ensures.len in
    let stored = c.in_ok-bytes.bytes.ok.0 in
    let end = c.len-place-end.ensures in
    pair_read c.args.text.now c.loop-place.bytes.items c.loop-place.place c.loop-place.greatest c.value_of-high.result c.value_of-low.result c.max-greatest.result
    c.if-text-ne0.false (omega (arith, long, first, stored, end)) (sym c.value_of-high.ensures) (sym c.value_of-low.ensures) (omega arith) c.loop-place.invariant

pub returns : goal.returns
returns c =
    let long = c.loop-place.invariant.long in
    let first = c.in_ok-bytes.ensures.len in
    let stored = c.in_ok-bytes.bytes.ok.0 in
    let end = c.len-place-end.ensures in
    all_read c.args.text.now c.loop-place.bytes.items c.loop-place.place c.loop-place.greatest c.if-text-ne0.false (omega (arith, long, first, stored, end)) (omega arith) c.loop-place.invariant
