use Rattle.std.proofs.Common.{rules, arith, inl, inr, ◌∙◌, length}
use Rattle.cts_def.specs.Starts.{place_data}
use Rattle.cts_framing.specs.Stating.{Long, Wrong}
use Rattle.cts_stream.specs.Parameters.{length_data}
use Rattle.cts_stream.proofs.LengthFinding.{states_as, judged_as, length_few, length_open, length_part, length_wrong, length_found}
use Rattle.cts_stream.proofs.length.find_length.Goals.{then-is_empty-via-then-is_empty, then-is_empty-via-else-is_empty+then-bytes-sync, then-is_empty-via-else-is_empty+else-bytes-sync+then-bytes-reach}
use Rattle.cts_stream.proofs.length.find_length.Goals as goal

pub returns-then-is_empty : goal.returns-then-is_empty
returns-then-is_empty c fill =
    let l = length_data (place_data c.args.place.now) c.args.value_offset.now c.args.per_count c.args.discard c.args.sync.now c.args.max fill in
    elim c.then-is_empty.branch [
      | then-is_empty-via-then-is_empty w ↦ length_few l c.args.bytes.now c.requires (inr (search rules))
      | then-is_empty-via-else-is_empty+then-bytes-sync w ↦ length_few l c.args.bytes.now c.requires (inl w.if-bytes-sync.true)
      | then-is_empty-via-else-is_empty+else-bytes-sync+then-bytes-reach w ↦ length_open l c.args.bytes.now c.requires (omega (arith, w.if-bytes-reach.true, c.reach-reach.ensures.value))
    ]

pub returns-then-bytes-len : goal.returns-then-bytes-len
returns-then-bytes-len c fill =
    let l = length_data (place_data c.args.place.now) c.args.value_offset.now c.args.per_count c.args.discard c.args.sync.now c.args.max fill in
    let states = states_as l c.args.bytes.now c.reach-reach.result c.read_uint-field.result c.stated_length-stated.result c.reach-reach.ensures.value c.read_uint-field.ensures.value c.stated_length-stated.ensures (omega (arith, c.if-bytes-reach.false)) in
    let judged = judged_as c.args.max c.reach-reach.result (length c.args.sync.now) c.read_uint-field.result c.stated_length-stated.result in
    length_part l c.args.bytes.now c.requires c.in-Ok.len (states ∙ judged (Long c.in-Ok.len) _ (search rules) c.in-Ok.ensures) c.if-bytes-len.true

pub returns-in-Err : goal.returns-in-Err
returns-in-Err c fill =
    let l = length_data (place_data c.args.place.now) c.args.value_offset.now c.args.per_count c.args.discard c.args.sync.now c.args.max fill in
    let states = states_as l c.args.bytes.now c.reach-reach.result c.read_uint-field.result c.stated_length-stated.result c.reach-reach.ensures.value c.read_uint-field.ensures.value c.stated_length-stated.ensures (omega (arith, c.if-bytes-reach.false)) in
    let judged = judged_as c.args.max c.reach-reach.result (length c.args.sync.now) c.read_uint-field.result c.stated_length-stated.result in
    length_wrong l c.args.bytes.now c.requires c.in-Err.cause (omega (arith, c.if-bytes-sync.false)) (search rules) (states ∙ judged (Wrong c.in-Err.cause) _ (search rules) c.in-Err.ensures)

pub returns-else-bytes-len : goal.returns-else-bytes-len
returns-else-bytes-len c fill =
    let l = length_data (place_data c.args.place.now) c.args.value_offset.now c.args.per_count c.args.discard c.args.sync.now c.args.max fill in
    let states = states_as l c.args.bytes.now c.reach-reach.result c.read_uint-field.result c.stated_length-stated.result c.reach-reach.ensures.value c.read_uint-field.ensures.value c.stated_length-stated.ensures (omega (arith, c.if-bytes-reach.false)) in
    let judged = judged_as c.args.max c.reach-reach.result (length c.args.sync.now) c.read_uint-field.result c.stated_length-stated.result in
    let bit = c.reach-reach.ensures.least in
    let some = c.reach-reach.ensures.holds bit.0 bit.1 in (
      length_found l c.args.bytes.now c.requires c.in-Ok.len c.min.result (omega (arith, c.if-bytes-reach.false, c.reach-reach.ensures.value)) (omega (arith, some)) (states ∙ judged (Long c.in-Ok.len) _ (search rules) c.in-Ok.ensures) (omega (arith, c.if-bytes-len.false)) c.min.ensures,
      omega (arith, c.min.ensures),
      omega arith,
      tt,
    )
