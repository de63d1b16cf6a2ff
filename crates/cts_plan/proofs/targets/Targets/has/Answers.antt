use Rattle.std.proofs.Common.{◌∙◌, ap}
use Rattle.std.specs.List.{list_any}
use Rattle.cts_base.proofs.Known.{known_bytes}
use Rattle.cts_def.specs.Items.{is_same}
use Rattle.cts_plan.proofs.targets.Targets.has.Goals as goal

pub returns : goal.returns
returns c =
    c.contains.ensures ∙ c.self.invariant c.args.name.now ∙ known_bytes c.self.inside.names c.args.name.now
    ∙ ap (list_any (is_same c.args.name.now)) c.self.view_is
