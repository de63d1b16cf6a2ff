use Rattle.std.proofs.Common.{rules, refl, cond, ◌∙◌, arith, inl, inr, sym, length, take, drop, ◌≡◌, ◌+◌, [], false, Some, None}
use Rattle.cts_stream.specs.Parameters.{terminated_data}
use Rattle.cts_stream.proofs.TerminatedFinding.{none_seen, order_seen, same_first, end_fits, terminated_few, terminated_open, terminated_wrong, terminated_short, terminated_found, end_within}
use Rattle.cts_stream.proofs.terminated.find_terminated.Goals.{then-is_empty-via-then-is_empty, then-is_empty-via-else-is_empty+then-bytes-sync, then-strip, else-strip}
use Rattle.cts_stream.proofs.terminated.find_terminated.Goals as goal

pub returns-then-is_empty : goal.returns-then-is_empty
returns-then-is_empty c write fill =
    terminated_few (terminated_data write c.args.read.now c.args.strip c.args.discard c.args.sync.now fill) c.args.bytes.now c.requires.synced (elim c.then-is_empty.branch [
      | then-is_empty-via-then-is_empty w ↦ inr (search rules)
      | then-is_empty-via-else-is_empty+then-bytes-sync w ↦ inl w.if-bytes-sync.true
    ])

pub overflow_add-body : goal.overflow_add-body
overflow_add-body c =
    let t = terminated_data [] c.args.read.now c.args.strip c.args.discard c.args.sync.now false in
    let found = same_first t c.args.bytes.now (drop (length c.args.sync.now) (take c.min.result c.args.bytes.now)) c.min.result (Some c.in-Some.place) c.min.ensures refl c.in-Some.ensures in
    let fits = end_fits t c.args.bytes.now c.in-Some.place found (omega (arith, c.if-bytes-sync.false)) in
    search rules

pub overflow_add-len : goal.overflow_add-len
overflow_add-len c =
    let t = terminated_data [] c.args.read.now c.args.strip c.args.discard c.args.sync.now false in
    let found = same_first t c.args.bytes.now (drop (length c.args.sync.now) (take c.min.result c.args.bytes.now)) c.min.result (Some c.in-Some.place) c.min.ensures refl c.in-Some.ensures in
    let fits = end_fits t c.args.bytes.now c.in-Some.place found (omega (arith, c.if-bytes-sync.false)) in
    search rules

pub returns-then-len-eq0 : goal.returns-then-len-eq0
returns-then-len-eq0 c write fill =
    let t = terminated_data write c.args.read.now c.args.strip c.args.discard c.args.sync.now fill in
    let found = same_first t c.args.bytes.now (drop (length c.args.sync.now) (take c.min.result c.args.bytes.now)) c.min.result (Some c.in-Some.place) c.min.ensures refl c.in-Some.ensures in
    terminated_short t c.args.bytes.now c.requires.synced c.in-Some.place found c.if-len-eq0.true

pub returns-then-bytes-lt-FRAME_LIMIT : goal.returns-then-bytes-lt-FRAME_LIMIT
returns-then-bytes-lt-FRAME_LIMIT c write fill =
    let t = terminated_data write c.args.read.now c.args.strip c.args.discard c.args.sync.now fill in
    let found = same_first t c.args.bytes.now (drop (length c.args.sync.now) (take c.min.result c.args.bytes.now)) c.min.result None c.min.ensures refl c.in-None.ensures in
    terminated_open t c.args.bytes.now c.requires.synced found c.if-bytes-lt-FRAME_LIMIT.true

pub returns-else-bytes-lt-FRAME_LIMIT : goal.returns-else-bytes-lt-FRAME_LIMIT
returns-else-bytes-lt-FRAME_LIMIT c write fill =
    let t = terminated_data write c.args.read.now c.args.strip c.args.discard c.args.sync.now fill in
    let found = same_first t c.args.bytes.now (drop (length c.args.sync.now) (take c.min.result c.args.bytes.now)) c.min.result None c.min.ensures refl c.in-None.ensures in
    terminated_wrong t c.args.bytes.now c.requires.synced found (omega (arith, c.if-bytes-sync.false)) (omega (arith, c.if-bytes-lt-FRAME_LIMIT.false))

pub returns-after-strip : goal.returns-after-strip
returns-after-strip c write fill =
    let t = terminated_data write c.args.read.now c.args.strip c.args.discard c.args.sync.now fill in
    let found = same_first t c.args.bytes.now (drop (length c.args.sync.now) (take c.min.result c.args.bytes.now)) c.min.result (Some c.in-Some.place) c.min.ensures refl c.in-Some.ensures in
    let n = length c.args.sync.now + c.in-Some.place + length c.args.read.now in
    let kept : c.if-strip.end ≡ cond c.args.strip (length c.args.sync.now + c.in-Some.place) n = elim c.if-strip.branch [
      | then-strip w ↦ w.end-is ∙ sym (rw w.if-strip.true refl)
      | else-strip w ↦ w.end-is ∙ sym (rw w.if-strip.false refl)
    ] in (
      terminated_found t c.args.bytes.now c.requires.synced c.in-Some.place found n c.if-strip.end c.min-in-Some.result refl (omega (arith, c.if-len-eq0.false)) (omega (arith, c.if-bytes-sync.false)) kept c.min-in-Some.ensures,
      omega (arith, c.min-in-Some.ensures),
      end_within c.args.strip (length c.args.sync.now + c.in-Some.place) n c.if-strip.end (omega arith) kept,
      tt,
    )

pub leftmost_after-requires-clause-order : goal.leftmost_after-requires-clause-order
leftmost_after-requires-clause-order c = order_seen c.args.seen (length c.args.sync.now) (length c.args.read.now) c.first_unseen-from.result c.first_unseen-from.ensures

pub leftmost_after-requires-clause-none : goal.leftmost_after-requires-clause-none
leftmost_after-requires-clause-none c =
    none_seen (terminated_data [] c.args.read.now c.args.strip c.args.discard c.args.sync.now false) c.args.bytes.now c.min.result c.args.seen c.first_unseen-from.result c.requires.synced
    (omega (arith, c.if-bytes-sync.false)) c.requires.seen c.min.ensures c.first_unseen-from.ensures
