use Rattle.std.proofs.Common.{refl}
use Rattle.cts_run.proofs.BoxLemmas.{none_above, none_below}
use Rattle.cts_run.proofs.HubbingLemmas.{both_made, half_made, memory_keeps, memory_performs, none_made}
use Rattle.cts_run.proofs.PhaseLemmas.{faults_stay, load_counts, load_stays, logs_stay}
use Rattle.cts_run.proofs.PlayingLemmas.{only_memory}
use Rattle.cts_run.proofs.StoryLemmas.{site_is}
use Rattle.cts_core.specs.States.{opening}
use Rattle.cts_run.proofs.hub.begin_both.Goals as goal

pub returns-in-Ok-begin-clause-performs : goal.returns-in-Ok-begin-clause-performs
returns-in-Ok-begin-clause-performs g c = λ vault.
    rw (site_is c.args.above opening c.in-Ok.upper c.in-Ok.ensures.gives.1) at (rw (site_is c.args.below opening c.in-Ok-begin.lower c.in-Ok-begin.ensures.gives.1) at (c.hub_script-done.ensures.performs vault))

pub returns-in-Ok-begin-clause-boxes : goal.returns-in-Ok-begin-clause-boxes
returns-in-Ok-begin-clause-boxes g c = both_made _ _ _ c.args.above c.args.below c.hub_script-done.result c.in-Ok.ensures.taken c.in-Ok-begin.ensures.taken

pub returns-in-Err-begin-clause-performs : goal.returns-in-Err-begin-clause-performs
returns-in-Err-begin-clause-performs g c = λ vault.
    memory_performs c.args.above c.args.below c.args.tied.now.ends (c.requires.least, c.requires.most) c.args.script.now _ c.in-Err-begin.halt _
    (only_memory _ c.args.below c.in-Err-begin.halt (none_below _ _ c.args.above c.args.below c.requires.short c.in-Ok.ensures.taken) c.in-Err-begin.ensures.gives.0)

pub returns-in-Err-begin-clause-boxes : goal.returns-in-Err-begin-clause-boxes
returns-in-Err-begin-clause-boxes g c = half_made _ _ _ c.args.above c.args.below c.in-Err-begin.halt c.requires.short c.in-Ok.ensures.taken c.in-Err-begin.ensures.gives.0 c.in-Err-begin.ensures.kept

pub returns-in-Err-begin-clause-keeps : goal.returns-in-Err-begin-clause-keeps
returns-in-Err-begin-clause-keeps g c =
    memory_keeps c.args.above c.args.below c.args.tied.now.ends c.args.script.now _ c.in-Err-begin.halt
    (only_memory _ c.args.below c.in-Err-begin.halt (none_below _ _ c.args.above c.args.below c.requires.short c.in-Ok.ensures.taken) c.in-Err-begin.ensures.gives.0)

pub returns-in-Err-clause-performs : goal.returns-in-Err-clause-performs
returns-in-Err-clause-performs g c = λ vault.
    memory_performs c.args.above c.args.below c.args.tied.now.ends (c.requires.least, c.requires.most) c.args.script.now _ c.in-Err.halt _
    (only_memory _ c.args.above c.in-Err.halt (none_above _ (g.B.Stocked.stock c.args.shelf.now) c.args.above c.args.below c.requires.short) c.in-Err.ensures.gives.0)

pub returns-in-Err-clause-boxes : goal.returns-in-Err-clause-boxes
returns-in-Err-clause-boxes g c = none_made _ _ c.args.above c.args.below c.in-Err.halt c.requires.short c.in-Err.ensures.gives.0 c.in-Err.ensures.kept

pub returns-in-Err-clause-keeps : goal.returns-in-Err-clause-keeps
returns-in-Err-clause-keeps g c =
    memory_keeps c.args.above c.args.below c.args.tied.now.ends c.args.script.now _ c.in-Err.halt
    (only_memory _ c.args.above c.in-Err.halt (none_above _ (g.B.Stocked.stock c.args.shelf.now) c.args.above c.args.below c.requires.short) c.in-Err.ensures.gives.0)

pub returns-in-Err-begin-clause-files : goal.returns-in-Err-begin-clause-files
returns-in-Err-begin-clause-files g c = load_counts c.in-Err-begin.halt _ _ (load_stays c.in-Err-begin.halt _ _ c.in-Err-begin.ensures.gives.1 (refl, refl))

pub returns-in-Err-begin-clause-sink : goal.returns-in-Err-begin-clause-sink
returns-in-Err-begin-clause-sink g c = faults_stay c.in-Err-begin.halt _ c.in-Err-begin.ensures.gives.1

pub returns-in-Err-begin-clause-vault : goal.returns-in-Err-begin-clause-vault
returns-in-Err-begin-clause-vault g c = λ vault. logs_stay c.in-Err-begin.halt vault c.in-Err-begin.ensures.gives.1

pub returns-in-Err-clause-files : goal.returns-in-Err-clause-files
returns-in-Err-clause-files g c = load_counts c.in-Err.halt _ _ (load_stays c.in-Err.halt _ _ c.in-Err.ensures.gives.1 (refl, refl))

pub returns-in-Err-clause-sink : goal.returns-in-Err-clause-sink
returns-in-Err-clause-sink g c = faults_stay c.in-Err.halt _ c.in-Err.ensures.gives.1

pub returns-in-Err-clause-vault : goal.returns-in-Err-clause-vault
returns-in-Err-clause-vault g c = λ vault. logs_stay c.in-Err.halt vault c.in-Err.ensures.gives.1

pub returns-in-Ok-begin-clause-keeps : goal.returns-in-Ok-begin-clause-keeps
returns-in-Ok-begin-clause-keeps g c =
    let above = site_is c.args.above opening c.in-Ok.upper c.in-Ok.ensures.gives.1 in
    let below = site_is c.args.below opening c.in-Ok-begin.lower c.in-Ok-begin.ensures.gives.1 in
    (rw above at (rw below at c.hub_script-done.ensures.keeps)) c.requires.both
