use Rattle.std.proofs.Common.{◌≡◌, take}
use Rattle.cts_entry.specs.Histories.{latest}
use Rattle.cts_base.specs.Names.{in_upper_case}
use Rattle.cts_monitor.specs.Settings.{limits_named}
use Rattle.cts_monitor.proofs.settings.limits_in.Given as goal

abbrev pub invariant-loop-given : goal.invariant-loop-given
invariant-loop-given l = record {
  found : l.found ≡ latest (limits_named (in_upper_case l.set)) (take l.given-index l.sets);
}
