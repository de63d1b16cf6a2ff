use Rattle.cts_run.proofs.story.Story.over.Goals as goal

pub returns-in-Ok-new-clause-taken : goal.returns-in-Ok-new-clause-taken
returns-in-Ok-new-clause-taken g c = rw c.in-Ok.ensures.ok at c.in-Ok-new.ensures.taken
