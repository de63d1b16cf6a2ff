use Rattle.std.proofs.Common.{rules, arith, inl}
use Rattle.std.proofs.lemmas.List.{length-take, length-drop, take_rest}
use Rattle.cts_http.specs.Heads.{most_head}
use Rattle.cts_http.proofs.WholeLemmas.{waits_counts, refuses_counts, lacks_waits, closed_counts, more_counted, smaller}
use Rattle.cts_http.proofs.whole.requests_with.Goals as goal

pub judge-requires : goal.judge-requires
judge-requires c = record { room = omega (arith, length-take most_head c.loop-head.left.now, c.loop-head.auto.room, c.requires.room) }

pub returns-in-More : goal.returns-in-More
returns-in-More c = waits_counts c.args.bytes.now c.loop-head.count c.loop-head.left.now c.loop-head.invariant (inl c.in-More.ensures)

pub returns-in-Refuse : goal.returns-in-Refuse
returns-in-Refuse c = refuses_counts c.args.bytes.now c.loop-head.count c.loop-head.left.now c.in-Refuse.status c.loop-head.invariant c.in-Refuse.ensures

pub returns-then-body-head : goal.returns-then-body-head
returns-then-body-head c =
    let few = c.if-body-head.true in
    waits_counts c.args.bytes.now c.loop-head.count c.loop-head.left.now c.loop-head.invariant
    (lacks_waits c.loop-head.left.now c.in-Head.head c.in-Head.ensures (omega (arith, few, length-drop c.in-Head.head.start c.loop-head.left.now)))

pub returns-then-head : goal.returns-then-head
returns-then-head c =
    let fits = c.if-body-head.false in
    closed_counts c.args.bytes.now c.loop-head.count c.loop-head.left.now c.in-Head.head c.loop-head.invariant c.in-Head.ensures
    (omega (arith, fits, length-drop c.in-Head.head.start c.loop-head.left.now)) c.if-head.true

pub loop-head-smaller : goal.loop-head-smaller
loop-head-smaller c =
    let fits = c.if-body-head.false in
    let less = smaller c.loop-head.left.now c.in-Head.head c.in-Head.ensures in
    search (rules, less)

pub loop-head-preserved : goal.loop-head-preserved
loop-head-preserved c =
    let fits = c.if-body-head.false in
    more_counted c.args.bytes.now c.loop-head.count c.loop-head.left.now c.in-Head.head c.loop-head.invariant c.in-Head.ensures
    (omega (arith, fits, length-drop c.in-Head.head.start c.loop-head.left.now)) c.if-head.false _ _ (take_rest c.loop-head.left.now c.in-Head.head.start) (take_rest _ c.in-Head.head.length)
