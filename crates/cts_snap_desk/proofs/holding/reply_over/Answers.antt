use Rattle.cts_desk.proofs.Replying.{asked}
use Rattle.cts_snap_desk.proofs.holding.reply_over.Goals as goal

pub returns-clause-asked : goal.returns-clause-asked
returns-clause-asked c = asked c.args.hall.now c.args.by c.args.time c.args.body.now c.count-front.result c.reply-answer.result c.reply-answer.new.hall c.replies_are_of_their_desk.ensures c.count-front.ensures c.reply-answer.ensures.replied
