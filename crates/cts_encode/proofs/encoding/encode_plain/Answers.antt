use Rattle.std.proofs.Common.{true, false}
use Rattle.cts_encode.proofs.Same.{with_parts}
use Rattle.cts_encode.proofs.encoding.encode_plain.Goals as goal

pub returns-then-fill : goal.returns-then-fill
returns-then-fill c = λ h. with_parts h c.args.bytes.now c.args.out.now.items c.encode_filled.new.out.items c.args.discard c.as_slice.result.now c.args.sync.now c.args.termination.now true c.args.fill c.encode_filled.result
    c.as_slice.ensures c.if-fill.true (c.encode_filled.ensures h)

pub returns-else-fill : goal.returns-else-fill
returns-else-fill c = λ h. with_parts h c.args.bytes.now c.args.out.now.items c.encode_bare.new.out.items c.args.discard c.as_slice-else-fill.result.now c.args.sync.now c.args.termination.now false c.args.fill c.encode_bare.result
    c.as_slice-else-fill.ensures c.if-fill.false (c.encode_bare.ensures h)
