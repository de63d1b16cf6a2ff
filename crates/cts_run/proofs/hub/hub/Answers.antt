use Rattle.cts_run.proofs.HubbingLemmas.{pair_fails, pair_keeps, pair_leaves, pair_performs, unpaired_keeps, unpaired_leaves}
use Rattle.cts_run.proofs.PhaseLemmas.{counts_after, load_counts, load_faults, load_logs}
use Rattle.cts_run.proofs.hub.hub.Goals as goal

pub hub_sites-requires : goal.hub_sites-requires
hub_sites-requires g c = c.in-Ok.ensures.same

pub returns-in-Ok-clause-performs : goal.returns-in-Ok-clause-performs
returns-in-Ok-clause-performs g c = λ vault.
    pair_performs (g.B.Stocked.stock c.args.shelf.now) c.args.sources.now.definitions.now c.args.sources.now.site.now c.args.sources.now.script.now c.args.sources.now.below.now c.args.tie.now _ _ (c.in-Ok.above, c.in-Ok.below) c.hub_sites.result _ _ c.load_pair.ensures.stays c.in-Ok.ensures.content
    (c.hub_sites.ensures.performs vault)

pub returns-in-Ok-clause-boxes : goal.returns-in-Ok-clause-boxes
returns-in-Ok-clause-boxes g c =
    pair_leaves (g.B.Stocked.stock c.args.shelf.now) c.args.sources.now.definitions.now c.args.sources.now.site.now c.args.sources.now.script.now c.args.sources.now.below.now c.args.tie.now _ (c.in-Ok.above, c.in-Ok.below) c.hub_sites.result _ c.in-Ok.ensures.content c.hub_sites.ensures.boxes

pub returns-in-Ok-clause-keeps : goal.returns-in-Ok-clause-keeps
returns-in-Ok-clause-keeps g c =
    pair_keeps (g.B.Stocked.stock c.args.shelf.now) c.args.sources.now.definitions.now c.args.sources.now.site.now c.args.sources.now.script.now c.args.sources.now.below.now c.args.tie.now _ _ (c.in-Ok.above, c.in-Ok.below) c.hub_sites.result c.load_pair.ensures.stays c.in-Ok.ensures.content
    c.hub_sites.ensures.keeps

pub returns-in-Ok-clause-files : goal.returns-in-Ok-clause-files
returns-in-Ok-clause-files g c = counts_after c.hub_sites.result _ _ _ c.in-Ok.ensures.counts c.hub_sites.ensures.files

pub returns-in-Err-clause-performs : goal.returns-in-Err-clause-performs
returns-in-Err-clause-performs g c = λ vault.
    pair_fails (g.B.Stocked.stock c.args.shelf.now) c.args.sources.now.definitions.now c.args.sources.now.site.now c.args.sources.now.script.now c.args.sources.now.below.now c.args.tie.now _ c.in-Err.halt _ c.in-Err.ensures.content

pub returns-in-Err-clause-boxes : goal.returns-in-Err-clause-boxes
returns-in-Err-clause-boxes g c = unpaired_leaves (g.B.Stocked.stock c.args.shelf.now) c.args.sources.now.definitions.now c.args.sources.now.site.now c.args.sources.now.script.now c.args.sources.now.below.now c.args.tie.now _ c.in-Err.halt c.in-Err.ensures.content

pub returns-in-Err-clause-keeps : goal.returns-in-Err-clause-keeps
returns-in-Err-clause-keeps g c = unpaired_keeps c.args.sources.now.definitions.now c.args.sources.now.site.now c.args.sources.now.script.now c.args.sources.now.below.now c.args.tie.now _ c.in-Err.halt _ _ c.in-Err.ensures.counts

pub returns-in-Err-clause-files : goal.returns-in-Err-clause-files
returns-in-Err-clause-files g c = load_counts c.in-Err.halt _ _ c.in-Err.ensures.counts

pub returns-in-Err-clause-sink : goal.returns-in-Err-clause-sink
returns-in-Err-clause-sink g c = load_faults c.in-Err.halt _ _ _ c.in-Err.ensures.counts

pub returns-in-Err-clause-vault : goal.returns-in-Err-clause-vault
returns-in-Err-clause-vault g c = λ vault. load_logs c.in-Err.halt _ _ vault c.in-Err.ensures.counts
