use Rattle.std.proofs.Common.{◌≡◌, None, subst}
use Rattle.cts_def.specs.Sites.{SiteData}
use Rattle.cts_run.specs.Start.{short_kind}
use Rattle.cts_run.proofs.CommandLemmas.{no_vault}
use Rattle.cts_run.proofs.PhaseLemmas.{load_counts, load_faults, load_logs}
use Rattle.cts_run.proofs.PlayingLemmas.{log_fails, log_leaves, log_performs, play_counts, play_faults, play_logs, unread_leaves}
use Rattle.cts_run.proofs.play.play_read.Goals as goal

pub returns-in-Ok-clause-files : goal.returns-in-Ok-clause-files
returns-in-Ok-clause-files g c =
    let s = c.requires.site in
    play_counts s.0 _ c.play_file-done.result _ _ _ _ (c.play_file-done.ensures.plays s.0 no_vault s.1) c.in-Ok.ensures.counts

pub returns-in-Ok-clause-sink : goal.returns-in-Ok-clause-sink
returns-in-Ok-clause-sink g c =
    let s = c.requires.site in
    play_faults s.0 _ c.play_file-done.result _ _ (c.play_file-done.ensures.plays s.0 no_vault s.1)

pub returns-in-Ok-clause-vault : goal.returns-in-Ok-clause-vault
returns-in-Ok-clause-vault g c = λ vault.
    let s = c.requires.site in
    play_logs s.0 _ c.play_file-done.result _ _ (c.play_file-done.ensures.plays s.0 vault s.1)

pub returns-in-Ok-clause-performs : goal.returns-in-Ok-clause-performs
returns-in-Ok-clause-performs g c = λ site vault e.
    let stock = g.B.Stocked.stock c.args.shelf.now in
    log_performs stock site c.args.log.now (subst (λ (s : SiteData). short_kind stock s ≡ None) e c.requires.short) _ c.in-Ok.bytes c.play_file-done.result _ _ c.in-Ok.ensures.content
    (rw c.as_slice.ensures at c.play_file-done.ensures.plays site vault e)

pub returns-in-Ok-clause-boxes : goal.returns-in-Ok-clause-boxes
returns-in-Ok-clause-boxes g c = λ site e.
    let stock = g.B.Stocked.stock c.args.shelf.now in
    log_leaves stock site c.args.log.now (subst (λ (s : SiteData). short_kind stock s ≡ None) e c.requires.short) _ c.in-Ok.bytes c.play_file-done.result _ c.in-Ok.ensures.content
    (rw c.as_slice.ensures at c.play_file-done.ensures.boxes site e)

pub returns-in-Err-clause-performs : goal.returns-in-Err-clause-performs
returns-in-Err-clause-performs g c = λ site vault e.
    let stock = g.B.Stocked.stock c.args.shelf.now in
    log_fails stock site c.args.log.now (subst (λ (s : SiteData). short_kind stock s ≡ None) e c.requires.short) _ c.in-Err.halt _ c.in-Err.ensures.content

pub returns-in-Err-clause-boxes : goal.returns-in-Err-clause-boxes
returns-in-Err-clause-boxes g c = λ site e.
    let stock = g.B.Stocked.stock c.args.shelf.now in
    unread_leaves stock site c.args.log.now (subst (λ (s : SiteData). short_kind stock s ≡ None) e c.requires.short) _ c.in-Err.halt c.in-Err.ensures.content

pub returns-in-Err-clause-files : goal.returns-in-Err-clause-files
returns-in-Err-clause-files g c = load_counts c.in-Err.halt _ _ c.in-Err.ensures.counts

pub returns-in-Err-clause-sink : goal.returns-in-Err-clause-sink
returns-in-Err-clause-sink g c = load_faults c.in-Err.halt _ _ _ c.in-Err.ensures.counts

pub returns-in-Err-clause-vault : goal.returns-in-Err-clause-vault
returns-in-Err-clause-vault g c = λ vault. load_logs c.in-Err.halt _ _ vault c.in-Err.ensures.counts
