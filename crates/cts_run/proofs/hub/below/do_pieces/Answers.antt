use Rattle.cts_run.proofs.PlayLemmas.{stays_over}
use Rattle.cts_run.proofs.hub.below.do_pieces.Goals as goal

pub returns-then-over : goal.returns-then-over
returns-then-over g c = λ site before old vault p. stays_over site before c.args.pieces.now c.args.story.now old _ (rw c.if-over.true at p)

pub do_events-requires : goal.do_events-requires
do_events-requires g c =
    let k = c.requires in
    (k.0, k.1, k.2, k.3, rw c.if-over.false at k.4)

pub returns : goal.returns
returns g c = λ site before old vault p. c.do_events.ensures site before old vault (rw c.if-over.false at p)
