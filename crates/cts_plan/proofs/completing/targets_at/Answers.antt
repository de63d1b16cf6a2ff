use Rattle.std.proofs.Common.{◌∙◌, sym, ap}
use Rattle.std.proofs.lemmas.Option.{slice_get-get_or, slice_get_past}
use Rattle.cts_def.specs.Sites.{InterfaceData}
use Rattle.cts_plan.proofs.Numbered.{found_targets, targets_of_found}
use Rattle.cts_plan.proofs.completing.targets_at.Goals as goal

pub returns-in-Some : goal.returns-in-Some
returns-in-Some c =
    let is = c.args.interfaces.now in
    let there = c.in-Some.ensures.lookup in
    c.as_slice.ensures ∙ ap (λ (i : InterfaceData). i.targets) (c.interface.view_is ∙ there.1)
    ∙ sym (found_targets is c.args.number ∙ ap targets_of_found (slice_get-get_or is c.args.number c.in-Some.interface.now there.3.0))

pub returns-in-None : goal.returns-in-None
returns-in-None c =
    let is = c.args.interfaces.now in
    sym (found_targets is c.args.number ∙ ap targets_of_found (slice_get_past is c.args.number c.in-None.ensures.lookup.3))
