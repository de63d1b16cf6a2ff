use Rattle.std.proofs.Common.{◌∙◌, ap, arith}
use Rattle.cts_def.specs.declared.limits.Limits.{Limits}
use Rattle.cts_entry.specs.Histories.{or_earlier}
use Rattle.std.specs.Prelude.{Option}
use Rattle.cts_base.specs.Names.{in_upper_case}
use Rattle.cts_monitor.specs.Settings.{limits_named}
use Rattle.cts_monitor.proofs.Telling.{kept_step, or_is}
use Rattle.cts_monitor.proofs.settings.limits_in.Goals as goal

pub loop-given-preserved : goal.loop-given-preserved
loop-given-preserved c = record {
  found = kept_step (limits_named (in_upper_case c.args.set.now)) c.args.sets.now c.loop-given.given-index c.given-item.result _ _ (omega arith) c.given-item.is c.loop-given.invariant.found
      (c.or-found.ensures ∙ or_is c.limits_if_named.result c.loop-given.found ∙ ap (λ (o : Option Limits). or_earlier o c.loop-given.found) c.limits_if_named.ensures);
}
