use Rattle.std.proofs.Common.{arith, ◌≡◌, ◌∙◌, ◌∷◌, [], ap, map}
use Rattle.std.proofs.lemmas.Grind.{common_steps}
use Rattle.serde_json.proofs.Views.{view-Array}
use Rattle.serde_json.specs.View.{view}
use Rattle.cts_api.specs.Shown.{color, list, text}
use Rattle.cts_api.proofs.limits.out_row.Goals as goal

pub returns : goal.returns
returns c =
    let row = c.push_color.new.row in
    let rows : map view row.items ≡ text c.args.packet.now.target ∷ text c.args.packet.now.name ∷ text c.args.item.now.name ∷ color c.args.state ∷ [] = grind (arith, common_steps) in
    view-Array row ∙ ap list rows
