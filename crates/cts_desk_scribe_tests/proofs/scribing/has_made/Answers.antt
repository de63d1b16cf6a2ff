use Rattle.std.proofs.Common.{arith}
use Rattle.std.proofs.lemmas.Grind.{common_steps}
use Rattle.cts_entry.proofs.Walks.{drop_lent}
use Rattle.cts_desk_scribe_tests.proofs.scribing.has_made.Goals as goal

pub loop-n-preserved : goal.loop-n-preserved
loop-n-preserved c =
    let next = drop_lent c.args.hall.now.entries c.loop-n.n c.lend.result.now c.lend.ensures in
    let before = c.loop-n.invariant in
    grind (arith, common_steps)

pub returns : goal.returns
returns c =
    let end = c.count-n-end.ensures in
    let before = c.loop-n.invariant in
    grind (arith, common_steps)
