use Rattle.std.proofs.Common.{arith, ◌≡◌, ◌∙◌, ◌∷◌, ap, map}
use Rattle.std.proofs.lemmas.Grind.{common_steps}
use Rattle.std.specs.Prelude.{if◌then◌else◌}
use Rattle.cts_def.specs.Packets.{default_set}
use Rattle.serde_json.proofs.Views.{view-Array}
use Rattle.serde_json.specs.Data.{boolean}
use Rattle.serde_json.specs.View.{view}
use Rattle.cts_api.specs.Answers.{decimal_rows}
use Rattle.cts_api.specs.Shown.{list, text, whole}
use Rattle.cts_api.proofs.limits.limits_row.Goals as goal

pub returns : goal.returns
returns c =
    let u = c.args.used in
    let rows : map view c.push_limits.new.row.items ≡ text (if u.own then c.args.set.now else default_set) ∷ whole u.persistence ∷ boolean u.enabled ∷ decimal_rows u.limits = grind (arith, common_steps) in
    view-Array c.push_limits.new.row ∙ ap list rows
