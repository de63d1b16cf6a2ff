use Rattle.std.proofs.Common.{◌≡◌, take}
use Rattle.cts_entry.specs.Histories.{latest}
use Rattle.cts_base.specs.Names.{in_upper_case}
use Rattle.cts_monitor.specs.Places.{limits_at}
use Rattle.cts_monitor.proofs.places.Places.limits_given.Given as goal

abbrev pub invariant-loop-n : goal.invariant-loop-n
invariant-loop-n g l = record {
  items : l.n-items ≡ l.self.given;
  found : l.found ≡ latest (limits_at (g.H.Stands.list l.history) (in_upper_case l.set) l.packet l.item) (take l.n-index l.n-items);
}
