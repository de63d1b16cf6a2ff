use Rattle.std.proofs.Common.{refl}
use Rattle.cts_run.proofs.CommandLemmas.{made_shelf, replay_performs, replay_unloaded, replay_unmade, unloaded_shelf, unmade_shelf}
use Rattle.cts_run.proofs.PhaseLemmas.{counts_after, faults_stay, load_counts, load_faults, load_logs, load_stays, logs_stay}
use Rattle.cts_run.proofs.StoryLemmas.{site_is}
use Rattle.cts_core.specs.States.{opening}
use Rattle.cts_run.proofs.replay.replay.Goals as goal

pub returns-in-Ok-begin-clause-performs : goal.returns-in-Ok-begin-clause-performs
returns-in-Ok-begin-clause-performs g c =
    replay_performs _ c.args.definitions.now c.args.site.now c.args.script.now _ _ (c.in-Ok.plan, c.in-Ok.digest) _ c.replay_script-done.result _ _ c.load_site.ensures.stays
    (site_is c.in-Ok.plan opening c.in-Ok-begin.story c.in-Ok-begin.ensures.gives.1) c.in-Ok.ensures.content c.in-Ok-begin.ensures.gives.0 c.replay_script-done.ensures.performs

pub returns-in-Ok-begin-clause-files : goal.returns-in-Ok-begin-clause-files
returns-in-Ok-begin-clause-files g c = counts_after c.replay_script-done.result _ _ _ c.in-Ok.ensures.counts c.replay_script-done.ensures.files

pub returns-in-Err-begin-clause-performs : goal.returns-in-Err-begin-clause-performs
returns-in-Err-begin-clause-performs g c = replay_unmade _ c.args.definitions.now c.args.site.now c.args.script.now _ (c.in-Ok.plan, c.in-Ok.digest) c.in-Err-begin.halt _ c.in-Ok.ensures.content c.in-Err-begin.ensures.gives.0

pub returns-in-Err-begin-clause-files : goal.returns-in-Err-begin-clause-files
returns-in-Err-begin-clause-files g c = load_counts c.in-Err-begin.halt _ _ (load_stays c.in-Err-begin.halt _ _ c.in-Err-begin.ensures.gives.1 c.in-Ok.ensures.counts)

pub returns-in-Err-begin-clause-sink : goal.returns-in-Err-begin-clause-sink
returns-in-Err-begin-clause-sink g c = faults_stay c.in-Err-begin.halt _ c.in-Err-begin.ensures.gives.1

pub returns-in-Err-begin-clause-vault : goal.returns-in-Err-begin-clause-vault
returns-in-Err-begin-clause-vault g c = logs_stay c.in-Err-begin.halt _ c.in-Err-begin.ensures.gives.1

pub returns-in-Err-clause-performs : goal.returns-in-Err-clause-performs
returns-in-Err-clause-performs g c = replay_unloaded _ c.args.definitions.now c.args.site.now c.args.script.now _ c.in-Err.halt _ c.in-Err.ensures.content

pub returns-in-Err-clause-files : goal.returns-in-Err-clause-files
returns-in-Err-clause-files g c = load_counts c.in-Err.halt _ _ c.in-Err.ensures.counts

pub returns-in-Err-clause-sink : goal.returns-in-Err-clause-sink
returns-in-Err-clause-sink g c = load_faults c.in-Err.halt _ _ _ c.in-Err.ensures.counts

pub returns-in-Err-clause-vault : goal.returns-in-Err-clause-vault
returns-in-Err-clause-vault g c = load_logs c.in-Err.halt _ _ _ c.in-Err.ensures.counts

pub returns-in-Ok-begin-clause-boxes : goal.returns-in-Ok-begin-clause-boxes
returns-in-Ok-begin-clause-boxes g c = made_shelf _ _ c.args.definitions.now c.args.site.now _ (c.in-Ok.plan, c.in-Ok.digest) c.replay_script-done.result c.in-Ok.ensures.content c.in-Ok-begin.ensures.gives.0 c.in-Ok-begin.ensures.taken

pub returns-in-Err-begin-clause-boxes : goal.returns-in-Err-begin-clause-boxes
returns-in-Err-begin-clause-boxes g c = unmade_shelf _ _ c.args.definitions.now c.args.site.now _ (c.in-Ok.plan, c.in-Ok.digest) c.in-Err-begin.halt c.in-Ok.ensures.content c.in-Err-begin.ensures.gives.0 c.in-Err-begin.ensures.kept

pub returns-in-Err-clause-boxes : goal.returns-in-Err-clause-boxes
returns-in-Err-clause-boxes g c = unloaded_shelf _ _ c.args.definitions.now c.args.site.now _ c.in-Err.halt c.in-Err.ensures.content refl
