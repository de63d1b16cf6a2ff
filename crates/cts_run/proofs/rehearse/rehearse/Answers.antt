use Rattle.std.proofs.Common.{Some}
use Rattle.cts_core.specs.States.{opening}
use Rattle.cts_run.specs.Demo.{definitions_name, demo_files, site_name}
use Rattle.cts_run.specs.Story.{site_told}
use Rattle.cts_run.proofs.CommandLemmas.{made_shelf, no_vault, rehearse_counts, rehearse_faults, rehearse_logs, rehearse_performs, rehearse_unloaded, rehearse_unmade}
use Rattle.cts_run.proofs.StoryLemmas.{site_is}
use Rattle.cts_run.proofs.rehearse.rehearse.Goals as goal

pub returns-in-Ok-begin-clause-files : goal.returns-in-Ok-begin-clause-files
returns-in-Ok-begin-clause-files g c = λ files. rehearse_counts (site_told c.in-Ok-begin.story) c.args.number c.rehearse_in-done.result _ _ files (c.rehearse_in-done.ensures no_vault)

pub returns-in-Ok-begin-clause-sink : goal.returns-in-Ok-begin-clause-sink
returns-in-Ok-begin-clause-sink g c = rehearse_faults (site_told c.in-Ok-begin.story) c.args.number c.rehearse_in-done.result _ _ (c.rehearse_in-done.ensures no_vault)

pub returns-in-Ok-begin-clause-vault : goal.returns-in-Ok-begin-clause-vault
returns-in-Ok-begin-clause-vault g c = λ vault. rehearse_logs (site_told c.in-Ok-begin.story) c.args.number c.rehearse_in-done.result _ _ (c.rehearse_in-done.ensures vault)

pub returns-in-Ok-begin-clause-performs : goal.returns-in-Ok-begin-clause-performs
returns-in-Ok-begin-clause-performs g c = λ files vault.
    rehearse_performs _ c.args.number files (c.in-Ok.plan, c.in-Ok._digest) (site_told c.in-Ok-begin.story) c.rehearse_in-done.result _ _ (site_is c.in-Ok.plan opening c.in-Ok-begin.story c.in-Ok-begin.ensures.gives.1) (rw c.site_name.ensures at (rw c.definitions_name.ensures at c.in-Ok.ensures.content)) c.in-Ok-begin.ensures.gives.0
    (c.rehearse_in-done.ensures vault)

pub returns-in-Ok-begin-clause-boxes : goal.returns-in-Ok-begin-clause-boxes
returns-in-Ok-begin-clause-boxes g c = made_shelf _ _ definitions_name site_name (Some demo_files) (c.in-Ok.plan, c.in-Ok._digest) c.rehearse_in-done.result (rw c.site_name.ensures at (rw c.definitions_name.ensures at c.in-Ok.ensures.content)) c.in-Ok-begin.ensures.gives.0 c.in-Ok-begin.ensures.taken

pub returns-in-Err-begin-clause-performs : goal.returns-in-Err-begin-clause-performs
returns-in-Err-begin-clause-performs g c = λ files vault. rehearse_unmade _ c.args.number files (c.in-Ok.plan, c.in-Ok._digest) c.in-Err-begin.halt _ (rw c.site_name.ensures at (rw c.definitions_name.ensures at c.in-Ok.ensures.content)) c.in-Err-begin.ensures.gives.0

pub returns-in-Err-clause-performs : goal.returns-in-Err-clause-performs
returns-in-Err-clause-performs g c = λ files vault. rehearse_unloaded _ c.args.number files c.in-Err.halt _ (rw c.site_name.ensures at (rw c.definitions_name.ensures at c.in-Err.ensures.content))
