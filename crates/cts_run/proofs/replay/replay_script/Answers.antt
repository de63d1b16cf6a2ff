use Rattle.cts_run.proofs.CommandLemmas.{script_counts, script_fails, script_faults, script_logs, script_replays}
use Rattle.cts_run.proofs.PhaseLemmas.{load_counts, load_faults, load_logs}
use Rattle.cts_run.specs.Story.{site_told}
use Rattle.cts_run.proofs.replay.replay_script.Goals as goal

pub returns-in-Ok-clause-performs : goal.returns-in-Ok-clause-performs
returns-in-Ok-clause-performs g c =
    script_replays _ c.args.digest.now _ c.args.script.now c.in-Ok.events.items c.do_script-done.result _ _ (rw c.site.ensures.site at c.site.ensures.sound) (rw c.site.ensures.site at c.in-Ok.ensures.content) (rw c.deref.ensures.value at c.do_script-done.ensures)

pub returns-in-Ok-clause-files : goal.returns-in-Ok-clause-files
returns-in-Ok-clause-files g c =
    script_counts c.args.digest.now (site_told c.args.story.now) c.args.script.now c.in-Ok.events.items c.do_script-done.result _ _ _ _ (rw c.deref.ensures.value at c.do_script-done.ensures) c.in-Ok.ensures.counts

pub returns-in-Ok-clause-sink : goal.returns-in-Ok-clause-sink
returns-in-Ok-clause-sink g c =
    script_faults c.args.digest.now (site_told c.args.story.now) c.args.script.now c.in-Ok.events.items c.do_script-done.result _ _ (rw c.deref.ensures.value at c.do_script-done.ensures)

pub returns-in-Ok-clause-vault : goal.returns-in-Ok-clause-vault
returns-in-Ok-clause-vault g c =
    script_logs c.args.digest.now (site_told c.args.story.now) c.args.script.now c.in-Ok.events.items c.do_script-done.result _ _ (rw c.deref.ensures.value at c.do_script-done.ensures)

pub returns-in-Err-clause-performs : goal.returns-in-Err-clause-performs
returns-in-Err-clause-performs g c = script_fails _ c.args.digest.now _ c.args.script.now c.in-Err.halt _ (rw c.site.ensures.site at c.site.ensures.sound) (rw c.site.ensures.site at c.in-Err.ensures.content)

pub returns-in-Err-clause-files : goal.returns-in-Err-clause-files
returns-in-Err-clause-files g c = load_counts c.in-Err.halt _ _ c.in-Err.ensures.counts

pub returns-in-Err-clause-sink : goal.returns-in-Err-clause-sink
returns-in-Err-clause-sink g c = load_faults c.in-Err.halt _ _ _ c.in-Err.ensures.counts

pub returns-in-Err-clause-vault : goal.returns-in-Err-clause-vault
returns-in-Err-clause-vault g c = load_logs c.in-Err.halt _ _ _ c.in-Err.ensures.counts
