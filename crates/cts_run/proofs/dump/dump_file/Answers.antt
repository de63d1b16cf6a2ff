use Rattle.cts_run.proofs.CommandLemmas.{file_counts, file_faults, file_logs, no_vault, told_dumps}
use Rattle.cts_run.proofs.DumpedLemmas.{told_fails}
use Rattle.cts_run.proofs.PhaseLemmas.{load_counts, load_faults, load_logs}
use Rattle.cts_run.proofs.dump.dump_file.Goals as goal

pub returns-in-Ok-clause-files : goal.returns-in-Ok-clause-files
returns-in-Ok-clause-files g c = file_counts _ _ c.put_file-dumped.result _ _ _ _ (c.put_file-dumped.ensures.puts no_vault) c.in-Ok.ensures.counts

pub returns-in-Ok-clause-sink : goal.returns-in-Ok-clause-sink
returns-in-Ok-clause-sink g c = file_faults _ _ c.put_file-dumped.result _ _ (c.put_file-dumped.ensures.puts no_vault)

pub returns-in-Ok-clause-vault : goal.returns-in-Ok-clause-vault
returns-in-Ok-clause-vault g c = λ vault. file_logs _ _ c.put_file-dumped.result _ _ (c.put_file-dumped.ensures.puts vault)

pub returns-in-Ok-clause-dumps : goal.returns-in-Ok-clause-dumps
returns-in-Ok-clause-dumps g c = λ vault. told_dumps _ c.args.head.now c.args.log.now c.in-Ok.bytes _ _ _ c.in-Ok.ensures.content (rw c.as_slice.ensures at c.put_file-dumped.ensures.puts vault)

pub returns-in-Err-clause-files : goal.returns-in-Err-clause-files
returns-in-Err-clause-files g c = load_counts c.in-Err.halt _ _ c.in-Err.ensures.counts

pub returns-in-Err-clause-sink : goal.returns-in-Err-clause-sink
returns-in-Err-clause-sink g c = load_faults c.in-Err.halt _ _ _ c.in-Err.ensures.counts

pub returns-in-Err-clause-vault : goal.returns-in-Err-clause-vault
returns-in-Err-clause-vault g c = λ vault. load_logs c.in-Err.halt _ _ vault c.in-Err.ensures.counts

pub returns-in-Err-clause-dumps : goal.returns-in-Err-clause-dumps
returns-in-Err-clause-dumps g c = λ vault. told_fails _ c.args.head.now c.args.log.now c.in-Err.halt _ c.in-Err.ensures.content
