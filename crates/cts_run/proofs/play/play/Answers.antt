use Rattle.std.proofs.Common.{subst}
use Rattle.cts_def.specs.Sites.{SiteData}
use Rattle.cts_ident_laws.specs.Named.{HaveNames}
use Rattle.cts_run.specs.declared.halt.Halt.TheVariants as halt
use Rattle.cts_run.proofs.PhaseLemmas.{counts_after, load_counts, load_faults, load_logs}
use Rattle.cts_run.proofs.PlayingLemmas.{fails_keep, play_keeps, play_leaves, play_performs, play_unloaded, play_wants, unloaded_leaves, wants_leaves}
use Rattle.cts_run.proofs.play.play.Goals as goal

pub play_on-requires : goal.play_on-requires
play_on-requires g c = (c.in-Ok.plan, c.in-Ok-play_site.ensures)

pub returns-in-Ok-play_site-clause-performs : goal.returns-in-Ok-play_site-clause-performs
returns-in-Ok-play_site-clause-performs g c = λ vault.
    play_performs (g.B.Stocked.stock c.args.shelf.now) c.args.definitions.now c.args.site.now c.args.log.now _ _ (c.in-Ok.plan, c.in-Ok._digest) c.play_on.result _ _ c.load_site.ensures.stays c.in-Ok.ensures.content
    (c.play_on.ensures.performs c.in-Ok.plan vault c.in-Ok-play_site.ensures)

pub returns-in-Ok-play_site-clause-boxes : goal.returns-in-Ok-play_site-clause-boxes
returns-in-Ok-play_site-clause-boxes g c =
    play_leaves (g.B.Stocked.stock c.args.shelf.now) c.args.definitions.now c.args.site.now c.args.log.now _ _ (c.in-Ok.plan, c.in-Ok._digest) c.play_on.result _ c.load_site.ensures.stays c.in-Ok.ensures.content
    (c.play_on.ensures.boxes c.in-Ok.plan c.in-Ok-play_site.ensures)

pub returns-in-Ok-play_site-clause-files : goal.returns-in-Ok-play_site-clause-files
returns-in-Ok-play_site-clause-files g c = counts_after c.play_on.result _ _ _ c.in-Ok.ensures.counts c.play_on.ensures.files

pub returns-in-Err-play_site-clause-performs : goal.returns-in-Err-play_site-clause-performs
returns-in-Err-play_site-clause-performs g c = λ vault. play_wants (g.B.Stocked.stock c.args.shelf.now) c.args.definitions.now c.args.site.now c.args.log.now (g.F.Files.seen c.args.files.now).told _

pub returns-in-Err-play_site-clause-boxes : goal.returns-in-Err-play_site-clause-boxes
returns-in-Err-play_site-clause-boxes g c = wants_leaves (g.B.Stocked.stock c.args.shelf.now) c.args.definitions.now c.args.site.now c.args.log.now (g.F.Files.seen c.args.files.now).told

pub returns-in-Err-clause-performs : goal.returns-in-Err-clause-performs
returns-in-Err-clause-performs g c = λ vault. play_unloaded (g.B.Stocked.stock c.args.shelf.now) c.args.definitions.now c.args.site.now c.args.log.now _ c.in-Err.halt _ c.in-Err.ensures.content

pub returns-in-Err-clause-boxes : goal.returns-in-Err-clause-boxes
returns-in-Err-clause-boxes g c = unloaded_leaves (g.B.Stocked.stock c.args.shelf.now) c.args.definitions.now c.args.site.now c.args.log.now _ c.in-Err.halt c.in-Err.ensures.content

pub returns-in-Err-clause-files : goal.returns-in-Err-clause-files
returns-in-Err-clause-files g c = load_counts c.in-Err.halt _ _ c.in-Err.ensures.counts

pub returns-in-Err-clause-sink : goal.returns-in-Err-clause-sink
returns-in-Err-clause-sink g c = load_faults c.in-Err.halt _ _ _ c.in-Err.ensures.counts

pub returns-in-Err-clause-vault : goal.returns-in-Err-clause-vault
returns-in-Err-clause-vault g c = λ vault. load_logs c.in-Err.halt _ _ vault c.in-Err.ensures.counts

pub returns-in-Ok-play_site-clause-keeps : goal.returns-in-Ok-play_site-clause-keeps
returns-in-Ok-play_site-clause-keeps g c =
    play_keeps (g.B.Stocked.stock c.args.shelf.now) c.args.definitions.now c.args.site.now c.args.log.now (g.F.Files.seen c.args.files.now).told (c.in-Ok.plan, c.in-Ok._digest) c.play_on.result c.in-Ok.ensures.content
    (subst (λ (s : SiteData). HaveNames s.definitions) c.plan.view_is c.names_are_kept.ensures)

pub returns-in-Err-play_site-clause-keeps : goal.returns-in-Err-play_site-clause-keeps
returns-in-Err-play_site-clause-keeps g c = fails_keep (g.B.Stocked.stock c.args.shelf.now) c.args.definitions.now c.args.site.now c.args.log.now (g.F.Files.seen c.args.files.now).told halt.Memory

pub returns-in-Err-clause-keeps : goal.returns-in-Err-clause-keeps
returns-in-Err-clause-keeps g c = fails_keep (g.B.Stocked.stock c.args.shelf.now) c.args.definitions.now c.args.site.now c.args.log.now (g.F.Files.seen c.args.files.now).told c.in-Err.halt
