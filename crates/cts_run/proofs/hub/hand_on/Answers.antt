use Rattle.cts_run.specs.Story.{site_told}
use Rattle.cts_run.proofs.CommandLemmas.{no_vault}
use Rattle.cts_run.proofs.HubbingLemmas.{halted_above, handed, kept_done, kept_halted}
use Rattle.cts_run.proofs.hub.hand_on.Goals as goal

pub returns-in-Ok-clause-done : goal.returns-in-Ok-clause-done
returns-in-Ok-clause-done g c = λ vault.
    handed (site_told c.args.upper.now) (site_told c.args.lower.now) c.args.script.now c.args.events.now c.args.tied.now.ends (c.requires.least, c.requires.most) c.in-Ok.bytes c.run_above.new.story c.run_below-done.result _ _ c.in-Ok.ensures
    (rw c.as_slice.ensures at (c.run_below-done.ensures vault))

pub returns-in-Ok-clause-keeps : goal.returns-in-Ok-clause-keeps
returns-in-Ok-clause-keeps g c = λ tied.
    kept_done (site_told c.args.upper.now) (site_told c.args.lower.now) c.args.script.now c.args.events.now c.args.tied.now.ends (c.requires.least, c.requires.most) c.in-Ok.bytes c.run_above.new.story c.run_below-done.result _ _ tied c.in-Ok.ensures
    (rw c.hall.ensures at c.times_are_short.ensures) (rw c.as_slice.ensures at (c.run_below-done.ensures no_vault))

pub returns-in-Err-clause-done : goal.returns-in-Err-clause-done
returns-in-Err-clause-done g c = λ vault.
    halted_above (site_told c.args.upper.now) (site_told c.args.lower.now) c.args.script.now c.args.events.now c.args.tied.now.ends (c.requires.least, c.requires.most) c.in-Err.halt c.run_above.new.story _ c.in-Err.ensures

pub returns-in-Err-clause-keeps : goal.returns-in-Err-clause-keeps
returns-in-Err-clause-keeps g c = λ tied.
    kept_halted (site_told c.args.upper.now) (site_told c.args.lower.now) c.args.script.now c.args.events.now c.args.tied.now.ends (c.requires.least, c.requires.most) c.in-Err.halt c.run_above.new.story c.in-Err.ensures
