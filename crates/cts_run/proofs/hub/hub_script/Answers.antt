use Rattle.cts_run.specs.Story.{site_told}
use Rattle.cts_run.proofs.CommandLemmas.{no_vault}
use Rattle.cts_run.proofs.HubbingLemmas.{hands_counts, hands_faults, hands_logs, script_halts, script_keeps, unscripted_keeps, script_hands}
use Rattle.cts_run.proofs.PhaseLemmas.{load_counts, load_faults, load_logs}
use Rattle.cts_run.proofs.hub.hub_script.Goals as goal

pub returns-in-Ok-clause-performs : goal.returns-in-Ok-clause-performs
returns-in-Ok-clause-performs g c = λ vault.
    script_hands (site_told c.args.upper.now) (site_told c.args.lower.now) c.args.tied.now.ends (c.requires.least, c.requires.most) c.args.script.now _ c.in-Ok.events.items c.hand_on-done.result _ _ (rw c.site.ensures.site at c.in-Ok.ensures.content)
    (rw c.deref.ensures.value at (c.hand_on-done.ensures.done vault))

pub returns-in-Ok-clause-keeps : goal.returns-in-Ok-clause-keeps
returns-in-Ok-clause-keeps g c = λ tied.
    script_keeps (site_told c.args.upper.now) (site_told c.args.lower.now) c.args.tied.now.ends (c.requires.least, c.requires.most) c.args.script.now _ c.in-Ok.events.items c.hand_on-done.result (rw c.site.ensures.site at c.in-Ok.ensures.content)
    (rw c.deref.ensures.value at (c.hand_on-done.ensures.keeps tied))

pub returns-in-Ok-clause-files : goal.returns-in-Ok-clause-files
returns-in-Ok-clause-files g c =
    hands_counts (site_told c.args.upper.now) (site_told c.args.lower.now) c.args.script.now c.in-Ok.events.items c.args.tied.now.ends c.hand_on-done.result _ _ _ _ (rw c.deref.ensures.value at (c.hand_on-done.ensures.done no_vault)) c.in-Ok.ensures.counts

pub returns-in-Ok-clause-sink : goal.returns-in-Ok-clause-sink
returns-in-Ok-clause-sink g c =
    hands_faults (site_told c.args.upper.now) (site_told c.args.lower.now) c.args.script.now c.in-Ok.events.items c.args.tied.now.ends c.hand_on-done.result _ _ (rw c.deref.ensures.value at (c.hand_on-done.ensures.done no_vault))

pub returns-in-Ok-clause-vault : goal.returns-in-Ok-clause-vault
returns-in-Ok-clause-vault g c = λ vault.
    hands_logs (site_told c.args.upper.now) (site_told c.args.lower.now) c.args.script.now c.in-Ok.events.items c.args.tied.now.ends c.hand_on-done.result _ _ (rw c.deref.ensures.value at (c.hand_on-done.ensures.done vault))

pub returns-in-Err-clause-performs : goal.returns-in-Err-clause-performs
returns-in-Err-clause-performs g c = λ vault.
    script_halts (site_told c.args.upper.now) (site_told c.args.lower.now) c.args.tied.now.ends (c.requires.least, c.requires.most) c.args.script.now _ c.in-Err.halt _ (rw c.site.ensures.site at c.in-Err.ensures.content)

pub returns-in-Err-clause-keeps : goal.returns-in-Err-clause-keeps
returns-in-Err-clause-keeps g c = λ tied.
    unscripted_keeps (site_told c.args.upper.now) (site_told c.args.lower.now) c.args.tied.now.ends c.args.script.now _ _ _ c.in-Err.halt c.in-Err.ensures.counts

pub returns-in-Err-clause-files : goal.returns-in-Err-clause-files
returns-in-Err-clause-files g c = load_counts c.in-Err.halt _ _ c.in-Err.ensures.counts

pub returns-in-Err-clause-sink : goal.returns-in-Err-clause-sink
returns-in-Err-clause-sink g c = load_faults c.in-Err.halt _ _ _ c.in-Err.ensures.counts

pub returns-in-Err-clause-vault : goal.returns-in-Err-clause-vault
returns-in-Err-clause-vault g c = λ vault. load_logs c.in-Err.halt _ _ vault c.in-Err.ensures.counts
