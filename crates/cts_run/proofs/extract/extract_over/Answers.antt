use Rattle.cts_run.proofs.CommandLemmas.{no_vault}
use Rattle.cts_run.proofs.ExtractingLemmas.{log_fails, log_performs, table_counts, table_faults, table_logs}
use Rattle.cts_run.proofs.PhaseLemmas.{load_counts, load_faults, load_logs}
use Rattle.cts_run.proofs.extract.extract_over.Goals as goal

pub returns-in-Ok-clause-performs : goal.returns-in-Ok-clause-performs
returns-in-Ok-clause-performs g c = λ vault.
    log_performs c.args.definitions.now c.args.wanted.now c.args.log.now _ c.in-Ok.bytes c.put_table-done.result _ _ c.in-Ok.ensures.content (rw c.as_slice.ensures at c.put_table-done.ensures vault)

pub returns-in-Ok-clause-files : goal.returns-in-Ok-clause-files
returns-in-Ok-clause-files g c = table_counts c.args.definitions.now c.args.wanted.now _ c.put_table-done.result _ _ _ _ (c.put_table-done.ensures no_vault) c.in-Ok.ensures.counts

pub returns-in-Ok-clause-sink : goal.returns-in-Ok-clause-sink
returns-in-Ok-clause-sink g c = table_faults c.args.definitions.now c.args.wanted.now _ c.put_table-done.result _ _ (c.put_table-done.ensures no_vault)

pub returns-in-Ok-clause-vault : goal.returns-in-Ok-clause-vault
returns-in-Ok-clause-vault g c = λ vault. table_logs c.args.definitions.now c.args.wanted.now _ c.put_table-done.result _ _ (c.put_table-done.ensures vault)

pub returns-in-Err-clause-performs : goal.returns-in-Err-clause-performs
returns-in-Err-clause-performs g c = λ vault. log_fails c.args.definitions.now c.args.wanted.now c.args.log.now _ c.in-Err.halt _ c.in-Err.ensures.content

pub returns-in-Err-clause-files : goal.returns-in-Err-clause-files
returns-in-Err-clause-files g c = load_counts c.in-Err.halt _ _ c.in-Err.ensures.counts

pub returns-in-Err-clause-sink : goal.returns-in-Err-clause-sink
returns-in-Err-clause-sink g c = load_faults c.in-Err.halt _ _ _ c.in-Err.ensures.counts

pub returns-in-Err-clause-vault : goal.returns-in-Err-clause-vault
returns-in-Err-clause-vault g c = λ vault. load_logs c.in-Err.halt _ _ vault c.in-Err.ensures.counts
