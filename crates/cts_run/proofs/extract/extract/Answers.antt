use Rattle.cts_run.proofs.ExtractingLemmas.{extract_fails, extract_performs}
use Rattle.cts_run.proofs.PhaseLemmas.{counts_after, load_counts, load_faults, load_logs}
use Rattle.cts_run.proofs.extract.extract.Goals as goal

pub returns-in-Ok-clause-performs : goal.returns-in-Ok-clause-performs
returns-in-Ok-clause-performs g c = λ stock vault.
    extract_performs stock c.args.definitions.now c.args.log.now c.args.wanted.now _ _ c.in-Ok.read c.extract_over-done.result _ _ c.load_definitions.ensures.stays c.in-Ok.ensures.content (c.extract_over-done.ensures.performs vault)

pub returns-in-Ok-clause-files : goal.returns-in-Ok-clause-files
returns-in-Ok-clause-files g c = counts_after c.extract_over-done.result _ _ _ c.in-Ok.ensures.counts c.extract_over-done.ensures.files

pub returns-in-Err-clause-performs : goal.returns-in-Err-clause-performs
returns-in-Err-clause-performs g c = λ stock vault. extract_fails stock c.args.definitions.now c.args.log.now c.args.wanted.now _ c.in-Err.halt _ c.in-Err.ensures.content

pub returns-in-Err-clause-files : goal.returns-in-Err-clause-files
returns-in-Err-clause-files g c = load_counts c.in-Err.halt _ _ c.in-Err.ensures.counts

pub returns-in-Err-clause-sink : goal.returns-in-Err-clause-sink
returns-in-Err-clause-sink g c = load_faults c.in-Err.halt _ _ _ c.in-Err.ensures.counts

pub returns-in-Err-clause-vault : goal.returns-in-Err-clause-vault
returns-in-Err-clause-vault g c = λ vault. load_logs c.in-Err.halt _ _ vault c.in-Err.ensures.counts
