use Rattle.std.proofs.Common.{◌∙◌, ap, arith}
use Rattle.cts_def.specs.declared.limits.Limits.{Limits}
use Rattle.cts_entry.specs.Histories.{or_earlier}
use Rattle.std.specs.Prelude.{Option}
use Rattle.cts_base.specs.Names.{in_upper_case}
use Rattle.cts_monitor.specs.Places.{limits_at}
use Rattle.cts_monitor.proofs.Keyed.{get_any}
use Rattle.cts_monitor.proofs.Telling.{kept_step, or_is}
use Rattle.cts_monitor.proofs.places.Places.limits_given.Goals as goal

pub loop-n-preserved : goal.loop-n-preserved
loop-n-preserved g c = record {
  items = c.loop-n.invariant.items;
  found = kept_step (limits_at (g.H.Stands.list c.args.history.now) (in_upper_case c.args.set.now) c.args.packet c.args.item) c.as_slice-n-items.result.now c.loop-n.n-index _ _ _ (omega arith) (get_any c.as_slice-n-items.result.now c.loop-n.n-index _ _ c.loop-n-test.true) c.loop-n.invariant.found
      (c.or-found.ensures ∙ or_is c.limits_at.result c.loop-n.found ∙ ap (λ (o : Option Limits). or_earlier o c.loop-n.found) c.limits_at.ensures);
}
