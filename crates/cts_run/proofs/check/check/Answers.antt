use Rattle.cts_run.proofs.CommandLemmas.{check_counts, check_fails, check_faults, check_logs, check_performs}
use Rattle.cts_run.proofs.PhaseLemmas.{load_counts, load_faults, load_logs}
use Rattle.cts_run.proofs.check.check.Goals as goal

pub returns-in-Ok-clause-performs : goal.returns-in-Ok-clause-performs
returns-in-Ok-clause-performs g c = λ stock vault. rw c.put_answer.ensures (check_performs stock _ c.args.definitions.now c.args.site.now c.in-Ok.plan c.put_counts-put.result _ _ vault c.in-Ok.ensures.content c.put_counts-put.ensures)

pub returns-in-Ok-clause-files : goal.returns-in-Ok-clause-files
returns-in-Ok-clause-files g c = rw c.put_answer.ensures (check_counts _ c.put_counts-put.result _ _ _ _ c.put_counts-put.ensures c.in-Ok.ensures.counts)

pub returns-in-Ok-clause-sink : goal.returns-in-Ok-clause-sink
returns-in-Ok-clause-sink g c = rw c.put_answer.ensures (check_faults _ c.put_counts-put.result _ _ c.put_counts-put.ensures)

pub returns-in-Ok-clause-vault : goal.returns-in-Ok-clause-vault
returns-in-Ok-clause-vault g c = λ vault. rw c.put_answer.ensures (check_logs _ c.put_counts-put.result _ _ vault c.put_counts-put.ensures)

pub returns-in-Err-clause-performs : goal.returns-in-Err-clause-performs
returns-in-Err-clause-performs g c = λ stock vault. check_fails stock _ c.args.definitions.now c.args.site.now c.in-Err.halt _ c.in-Err.ensures.content

pub returns-in-Err-clause-files : goal.returns-in-Err-clause-files
returns-in-Err-clause-files g c = load_counts c.in-Err.halt _ _ c.in-Err.ensures.counts

pub returns-in-Err-clause-sink : goal.returns-in-Err-clause-sink
returns-in-Err-clause-sink g c = load_faults c.in-Err.halt _ _ _ c.in-Err.ensures.counts

pub returns-in-Err-clause-vault : goal.returns-in-Err-clause-vault
returns-in-Err-clause-vault g c = λ vault. load_logs c.in-Err.halt _ _ vault c.in-Err.ensures.counts
