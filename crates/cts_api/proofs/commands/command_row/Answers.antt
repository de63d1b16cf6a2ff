use Rattle.std.proofs.Common.{arith, rules, ◌≡◌, ◌∙◌, ◌++◌, ◌∷◌, [], List, ap, map}
use Rattle.std.proofs.lemmas.Grind.{common_steps}
use Rattle.std.proofs.lemmas.List.{map-append}
use Rattle.serde_json.proofs.Views.{view-Array, view-Object}
use Rattle.serde_json.specs.Data.{Data, object}
use Rattle.serde_json.specs.View.{view}
use Rattle.serde_json.specs.declared.value.Value.TheVariants.{Object}
use Rattle.cts_api.specs.Shown.{list, object_of, text}
use Rattle.cts_api.proofs.commands.command_row.Goals as goal

pub returns : goal.returns
returns c =
    let names = text c.args.command.now.target ∷ text c.args.command.now.name ∷ [] in
    let given = Object c.in_ok-object_of.field-0 in
    let before = c.push_text-2.new.row.items in
    let named : map view before ≡ names = grind (arith, common_steps) in
    let params : c.as_slice-3.result.now ≡ c.args.request.now.params = search rules in
    let shown = view-Object c.in_ok-object_of.field-0 ∙ ap object (c.in_ok-object_of.ensures ∙ ap object_of params) in
    view-Array c.push.new.self
    ∙ ap list (ap (map view) c.in_ok-push.ensures.items ∙ (map-append view before (given ∷ []) ∙ (ap (λ (ds : List Data). ds ++ view given ∷ []) named ∙ ap (λ (d : Data). names ++ d ∷ []) shown)))
