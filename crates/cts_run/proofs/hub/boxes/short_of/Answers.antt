use Rattle.std.proofs.Common.{◌+◌, arith}
use Rattle.cts_run.proofs.BoxLemmas.{needed_joint, short_not, short_shown}
use Rattle.cts_run.proofs.hub.boxes.short_of.Goals as goal

pub returns-then-stocked-needed : goal.returns-then-stocked-needed
returns-then-stocked-needed g c =
    let a = c.needed_by_site.ensures in
    let b = c.needed_by_site-2.ensures in
    let j = needed_joint c.args.kind c.args.above.now c.args.below.now in
    short_shown (g.B.Stocked.stock c.args.shelf.now) c.args.above.now c.args.below.now c.args.kind (c.needed_by_site.result + c.needed_by_site-2.result) c.boxes-stocked.result
    (omega (arith, a.count, b.count, j)) (omega (arith, a.few, b.few)) c.boxes-stocked.ensures c.if-stocked-needed.true

pub returns-else-stocked-needed : goal.returns-else-stocked-needed
returns-else-stocked-needed g c =
    let a = c.needed_by_site.ensures in
    let b = c.needed_by_site-2.ensures in
    let j = needed_joint c.args.kind c.args.above.now c.args.below.now in
    let enough = c.if-stocked-needed.false in
    short_not (g.B.Stocked.stock c.args.shelf.now) c.args.above.now c.args.below.now c.args.kind (c.needed_by_site.result + c.needed_by_site-2.result) c.boxes-stocked.result
    (omega (arith, a.count, b.count, j)) (omega (arith, a.few, b.few)) c.boxes-stocked.ensures (omega (arith, enough))
