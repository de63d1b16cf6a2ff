use Rattle.std.proofs.Common.{◌∙◌, ap, subst, Ok, Err}
use Rattle.cts_log_parts.specs.Growths.{cut_growth}
use Rattle.cts_log_parts.specs.Told.{PutsGrowth}
use Rattle.cts_outside.specs.declared.sink.PutFailed.{PutFailed}
use Rattle.cts_outside.specs.declared.vault.LogKind.TheVariants.{Cmd, Tlm}
use Rattle.cts_scribe.proofs.Vaulting.{both_first, both_second}
use Rattle.cts_scribe.proofs.putting.put_both.Goals as goal

pub returns-in-Ok-clause-content : goal.returns-in-Ok-clause-content
returns-in-Ok-clause-content g c =
    let growth = c.args.growth.now in
    let heads = c.args.heads.now in
    let tlm = ap (λ h. cut_growth h growth.tlm.places c.as_slice-tlm.result.now) c.as_slice.ensures
    ∙ ap (cut_growth heads.tlm growth.tlm.places) c.as_slice-tlm.ensures.value in
    let cmd = ap (λ h. cut_growth h growth.cmd.places c.as_slice-cmd.result.now) c.as_slice-in-Ok.ensures
    ∙ ap (cut_growth heads.cmd growth.cmd.places) c.as_slice-cmd.ensures.value in
    let before = (g.V.Vault.seen c.args.vault.now).told in
    let mid = (g.V.Vault.seen c.put_growth.new.vault).told in
    let after = (g.V.Vault.seen c.put_growth-in-Ok.new.vault).told in
    let result = c.put_growth-in-Ok.result in
    both_second before mid after (cut_growth heads.tlm growth.tlm.places growth.batch.tlm.items)
    (cut_growth heads.cmd growth.cmd.places growth.batch.cmd.items) c.in-Ok.field-0 result
    (subst (λ x. PutsGrowth {E = PutFailed} Tlm before mid x (Ok c.in-Ok.field-0)) tlm c.in-Ok.ensures.content)
    (subst (λ x. PutsGrowth Cmd mid after x result) cmd c.put_growth-in-Ok.ensures.content)

pub returns-in-Err-clause-content : goal.returns-in-Err-clause-content
returns-in-Err-clause-content g c =
    let growth = c.args.growth.now in
    let heads = c.args.heads.now in
    let tlm = ap (λ h. cut_growth h growth.tlm.places c.as_slice-tlm.result.now) c.as_slice.ensures
    ∙ ap (cut_growth heads.tlm growth.tlm.places) c.as_slice-tlm.ensures.value in
    let before = (g.V.Vault.seen c.args.vault.now).told in
    let after = (g.V.Vault.seen c.put_growth.new.vault).told in
    both_first before after (cut_growth heads.tlm growth.tlm.places growth.batch.tlm.items)
    (cut_growth heads.cmd growth.cmd.places growth.batch.cmd.items) c.in-Err.fault
    (subst (λ x. PutsGrowth {T = Unit {0}} Tlm before after x (Err c.in-Err.fault)) tlm c.in-Err.ensures.content)
