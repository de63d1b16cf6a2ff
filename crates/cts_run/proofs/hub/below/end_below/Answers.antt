use Rattle.cts_run.proofs.BelowLemmas.{ended_below, halts_below}
use Rattle.cts_run.proofs.hub.below.end_below.Goals as goal

pub do_made-requires : goal.do_made-requires
do_made-requires g c =
    let k = c.requires in
    (k.0, k.4.state, k.4.stands)

pub returns-in-Ok : goal.returns-in-Ok
returns-in-Ok g c = λ site before old vault p.
    rw c.put_answer.ensures (ended_below site before c.args.interface _ _ old _ _ vault c.count.result c.put_end.result (c.in-Ok.ensures site before old vault p) c.count.ensures c.put_end.ensures)

pub returns-in-Err : goal.returns-in-Err
returns-in-Err g c = λ site before old vault p. halts_below site before c.args.interface c.in-Err.halt old _ (c.in-Err.ensures site before old vault p)
