use Rattle.cts_run.proofs.PlayLemmas.{told_plays, untold_plays}
use Rattle.cts_run.proofs.play.tell_event.Goals as goal

pub returns-in-Ok : goal.returns-in-Ok
returns-in-Ok g c = λ site before old vault p.
    rw c.put_over.ensures
    (told_plays site before c.args.event.now _ _ old _ _ vault p c.in-Ok.text c.in-Ok.effect c.put_text-done.result (c.in-Ok.ensures site p.state p.stands) (rw c.as_slice.ensures at c.put_text-done.ensures.puts))

pub returns-in-Err : goal.returns-in-Err
returns-in-Err g c = λ site before old vault p. rw c.fault_over.ensures (untold_plays site before c.args.event.now _ _ old _ p c.in-Err.fault (c.in-Err.ensures site p.state p.stands))
