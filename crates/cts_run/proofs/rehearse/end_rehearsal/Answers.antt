use Rattle.cts_run.proofs.RehearsalLemmas.{puts_so, wants}
use Rattle.cts_run.proofs.rehearse.end_rehearsal.Goals as goal

pub returns-in-Ok : goal.returns-in-Ok
returns-in-Ok g c = λ site n vault p.
    rw c.put_answer.ensures (puts_so site n c.in-Ok.text c.put_text-done.result _ _ vault (c.in-Ok.ensures site n p) (rw c.as_slice.ensures at c.put_text-done.ensures.puts))

pub returns-in-Err : goal.returns-in-Err
returns-in-Err g c = λ site n vault p. wants site n _
