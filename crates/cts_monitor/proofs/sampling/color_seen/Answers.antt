use Rattle.std.proofs.Common.{◌∙◌, sym, subst}
use Rattle.cts_def.specs.Items.{IsSoundItem}
use Rattle.cts_monitor.proofs.SampleSteps.{color_seen_fresh}
use Rattle.cts_monitor.proofs.sampling.color_seen.Goals as goal

pub returns-then-is_number-clause-fresh : goal.returns-then-is_number-clause-fresh
returns-then-is_number-clause-fresh c x e =
    color_seen_fresh c.args.limits c.args.item.now c.raw_number.result (subst IsSoundItem c.item.view_is c.item.invariant) x (sym c.number_color.ensures ∙ e)
