use Rattle.std.proofs.Common.{true, false}
use Rattle.cts_def.specs.Starts.{place_data}
use Rattle.cts_encode.proofs.Same.{as_length, by_fill}
use Rattle.cts_encode.proofs.encoding.encode_length.Goals as goal

pub returns-then-fill-clause-put : goal.returns-then-fill-clause-put
returns-then-fill-clause-put c = λ h. by_fill h c.args.bytes.now c.args.out.now.items c.encode_counted.new.out.items (place_data c.args.field.now.place.now) c.args.field.now.value_offset.now c.args.field.now.per_count c.args.discard c.args.sync.now c.args.field.now.max true c.args.fill c.encode_counted.result
    c.if-fill.true (c.encode_counted.ensures.put h)

pub returns-else-fill-clause-put : goal.returns-else-fill-clause-put
returns-else-fill-clause-put c = λ h. by_fill h c.args.bytes.now c.args.out.now.items c.encode_bare.new.out.items (place_data c.args.field.now.place.now) c.args.field.now.value_offset.now c.args.field.now.per_count c.args.discard c.args.sync.now c.args.field.now.max false c.args.fill c.encode_bare.result
    c.if-fill.false (as_length h c.args.bytes.now c.args.out.now.items c.encode_bare.new.out.items (place_data c.args.field.now.place.now) c.args.field.now.value_offset.now c.args.field.now.per_count c.args.discard c.args.sync.now c.args.field.now.max c.encode_bare.result (c.encode_bare.ensures h))
