use Rattle.cts_run.proofs.LoadLemmas.{twice_answer, twice_counts, twice_same, twice_unread}
use Rattle.cts_run.proofs.load.configuration.load_definitions_twice.Goals as goal

pub returns-in-Ok-clause-content : goal.returns-in-Ok-clause-content
returns-in-Ok-clause-content g c =
    twice_answer (g.F.Files.seen c.args.files.now).told c.args.name.now c.in-Ok._digest c.in-Ok.found.items c.take_twice.result c.in-Ok.ensures.content (rw c.deref.ensures.value at c.take_twice.ensures)

pub returns-in-Ok-clause-same : goal.returns-in-Ok-clause-same
returns-in-Ok-clause-same g c = twice_same c.args.name.now _ c.take_twice.result c.take_twice.ensures

pub returns-in-Ok-clause-counts : goal.returns-in-Ok-clause-counts
returns-in-Ok-clause-counts g c = twice_counts c.args.name.now _ c.take_twice.result _ _ c.take_twice.ensures c.in-Ok.ensures.counts

pub returns-in-Err-clause-content : goal.returns-in-Err-clause-content
returns-in-Err-clause-content g c = twice_unread (g.F.Files.seen c.args.files.now).told c.args.name.now c.in-Err.halt c.in-Err.ensures.content
