use Rattle.cts_run.proofs.ReplayLemmas.{told_does, untold_does}
use Rattle.cts_run.proofs.replay.do_event.Goals as goal

pub returns-in-Ok : goal.returns-in-Ok
returns-in-Ok g c = λ site s h.
    rw c.put_answer.ensures (told_does site s c.args.script.now c.args.line c.args.event.now (c.in-Ok.text, c.in-Ok.effect) c.do_told-done.result _ _ _ (c.in-Ok.ensures site s h) (rw c.as_slice.ensures at c.do_told-done.ensures.done) c.do_told-done.ensures.memory)

pub returns-in-Err : goal.returns-in-Err
returns-in-Err g c = λ site s h. rw c.event_halt.ensures (untold_does site s c.args.script.now c.args.line c.args.event.now c.in-Err.fault _ _ (c.in-Err.ensures site s h))
