use Rattle.std.proofs.Common.{take}
use Rattle.cts_publisher.proofs.Followings.{follows_next}
use Rattle.cts_publisher.proofs.looking.follow_to.Goals as goal

pub entries-preserved : goal.entries-preserved
entries-preserved c =
    let es = c.args.hall.now.entries in
    let p = c.entries.progress in
    follows_next p c.follow.new.self es c.lend-entry.result.now c.lend-entry.ensures c.follow.ensures.place (c.follow.ensures.ended (take p.place es) c.entries.invariant.ended)

pub entries-init : goal.entries-init
entries-init c = c.requires.follows
