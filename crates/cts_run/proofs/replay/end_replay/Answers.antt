use Rattle.cts_run.proofs.ReplayLemmas.{count_is, rest_ends, rest_wanted}
use Rattle.cts_run.proofs.replay.end_replay.Goals as goal

pub returns-in-Ok : goal.returns-in-Ok
returns-in-Ok g c = λ site s h.
    rw c.put_answer.ensures (rest_ends site s c.in-Ok.rest c.count-entries.result c.end_logs-done.result _ _ (c.in-Ok.ensures site s h) (count_is site s _ c.count-entries.result c.count-entries.ensures h) c.end_logs-done.ensures)

pub returns-in-Err : goal.returns-in-Err
returns-in-Err g c = λ site s h. rest_wanted site s _
