use Rattle.std.proofs.lemmas.List.{nil_from_length}
use Rattle.cts_run.proofs.DumpedLemmas.{sink_after, told_first, told_none, told_then}
use Rattle.cts_run.proofs.PhaseLemmas.{counts_after}
use Rattle.cts_run.proofs.dump.+dump_files.Goals as goal

pub returns-in_default-clause-dumps : goal.returns-in_default-clause-dumps
returns-in_default-clause-dumps g t c = rw (nil_from_length c.args.logs.now c.in_default.ensures.cases) (λ vault. told_none _ c.args.head.now _)

pub returns-in-Ok-clause-dumps : goal.returns-in-Ok-clause-dumps
returns-in-Ok-clause-dumps g t c =
    rw (c.in-Some.ensures.cases.0)
    (λ vault. told_then _ _ c.args.head.now c.in-Some.log.now.now c.in-Ok.first _ c.dump_files.result _ _ _ c.in-Ok.ensures.stays (rw c.of.ensures at c.in-Ok.ensures.dumps vault) (rw c.of.ensures at c.in-Ok.ensures.head)
    (rw c.as_slice.ensures at c.dump_files.ensures.dumps vault))

pub returns-in-Err-clause-dumps : goal.returns-in-Err-clause-dumps
returns-in-Err-clause-dumps g t c = rw (c.in-Some.ensures.cases.0) (λ vault. told_first _ c.args.head.now c.in-Some.log.now.now _ c.in-Err.why _ _ (rw c.of.ensures at c.in-Err.ensures.dumps vault))

pub returns-in-Ok-clause-files : goal.returns-in-Ok-clause-files
returns-in-Ok-clause-files g t c = counts_after c.dump_files.result _ _ _ c.in-Ok.ensures.files c.dump_files.ensures.files

pub returns-in-Ok-clause-sink : goal.returns-in-Ok-clause-sink
returns-in-Ok-clause-sink g t c = sink_after c.dump_files.result _ _ _ c.in-Ok.ensures.sink c.dump_files.ensures.sink
