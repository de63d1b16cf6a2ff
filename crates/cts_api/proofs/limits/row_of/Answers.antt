use Rattle.std.proofs.Common.{arith, ◌≡◌, ◌∙◌, ◌∷◌, [], Some, ap, map}
use Rattle.std.proofs.lemmas.Grind.{common_steps}
use Rattle.serde_json.proofs.Views.{view-Array}
use Rattle.serde_json.specs.Data.{Data}
use Rattle.serde_json.specs.View.{view}
use Rattle.cts_api.specs.Shown.{color, list, text, whole}
use Rattle.cts_api.proofs.limits.row_of.Goals as goal

pub returns : goal.returns
returns c =
    let row = c.push_color-2.new.row in
    let e = c.args.event.now in
    let rows : map view row.items ≡ whole e.at ∷ text c.args.packet.now.target ∷ text c.args.packet.now.name ∷ text c.args.item.now.name ∷ color e.before ∷ color e.after ∷ [] = grind (arith, common_steps) in
    ap (λ (d : Data). Some d) (view-Array row ∙ ap list rows)
