use Rattle.cts_run.proofs.dump.dump.Goals as goal

pub returns-clause-performs : goal.returns-clause-performs
returns-clause-performs g c = λ stock vault. rw c.words.ensures at c.dump_files.ensures.dumps vault
