use Rattle.std.proofs.Common.{◌∙◌, ◌∷◌, [], ap, subst, Ok, Err}
use Rattle.cts_log_parts.specs.Told.{PutsGrowth}
use Rattle.cts_outside.specs.declared.sink.PutFailed.{PutFailed}
use Rattle.cts_outside.specs.declared.vault.LogKind.TheVariants.{Cmd, Tlm}
use Rattle.cts_scribe.proofs.Vaulting.{both_first, both_second, head_growth}
use Rattle.cts_scribe.proofs.putting.put_heads.Goals as goal

pub returns-in-Ok-clause-content : goal.returns-in-Ok-clause-content
returns-in-Ok-clause-content g c =
    let heads = c.args.heads.now in
    let uncut = c.none-uncut.ensures.places in
    let tlm = head_growth c.as_slice-tlm.result.now c.none-uncut.result.places uncut ∙ ap (λ h. h ∷ []) c.as_slice-tlm.ensures in
    let cmd = head_growth c.as_slice-cmd.result.now c.none-uncut.result.places uncut ∙ ap (λ h. h ∷ []) c.as_slice-cmd.ensures in
    let before = (g.V.Vault.seen c.args.vault.now).told in
    let mid = (g.V.Vault.seen c.put_growth.new.vault).told in
    let after = (g.V.Vault.seen c.put_growth-in-Ok.new.vault).told in
    let result = c.put_growth-in-Ok.result in
    both_second before mid after (heads.tlm ∷ []) (heads.cmd ∷ []) c.in-Ok.field-0 result
    (subst (λ x. PutsGrowth {E = PutFailed} Tlm before mid x (Ok c.in-Ok.field-0)) tlm c.in-Ok.ensures.content)
    (subst (λ x. PutsGrowth Cmd mid after x result) cmd c.put_growth-in-Ok.ensures.content)

pub returns-clause-content : goal.returns-clause-content
returns-clause-content g c =
    let heads = c.args.heads.now in
    let tlm = head_growth c.as_slice-tlm.result.now c.none-uncut.result.places c.none-uncut.ensures.places ∙ ap (λ h. h ∷ []) c.as_slice-tlm.ensures in
    let before = (g.V.Vault.seen c.args.vault.now).told in
    let after = (g.V.Vault.seen c.put_growth.new.vault).told in
    both_first before after (heads.tlm ∷ []) (heads.cmd ∷ []) c.in-Err.fault
    (subst (λ x. PutsGrowth {T = Unit {0}} Tlm before after x (Err c.in-Err.fault)) tlm c.in-Err.ensures.content)
