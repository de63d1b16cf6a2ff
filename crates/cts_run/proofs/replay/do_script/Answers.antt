use Rattle.std.proofs.Common.{Err, subst}
use Rattle.cts_def.specs.Sites.{SiteData}
use Rattle.cts_run.proofs.ReplayLemmas.{heads_fail, heads_then}
use Rattle.cts_run.specs.Acts.{DoesActs, outside}
use Rattle.cts_run.specs.Replay.{head_acts}
use Rattle.cts_run.specs.Story.{site_told}
use Rattle.cts_run.proofs.replay.do_script.Goals as goal

pub returns-in-Ok : goal.returns-in-Ok
returns-in-Ok g c = heads_then c.args.digest.now (site_told c.args.story.now) c.args.script.now c.args.events.now c.do_events.result _ _ _ (rw c.site.ensures.site at c.in-Ok.ensures (g.O.Sink.seen c.args.out.now)) c.do_events.ensures

pub returns-in-Err : goal.returns-in-Err
returns-in-Err g c =
    let out = g.O.Sink.seen c.args.out.now in
    let seen = g.V.Vault.seen in
    rw c.from.ensures (heads_fail c.args.digest.now (site_told c.args.story.now) c.args.script.now c.args.events.now c.in-Err.why _ _
    (subst (λ (s : SiteData). DoesActs (head_acts s c.args.digest.now) (Err c.in-Err.why) (outside out (seen c.args.vault.now)) (outside out (seen c.begin_logs.new.vault)))
    c.site.ensures.site (c.in-Err.ensures out)))
