use Rattle.std.proofs.Common.{◌≤◌, ◌-◌, length, take}
use Rattle.std.specs.Prelude.{All}
use Rattle.cts_scribe.proofs.Fitting.{Fits}
use Rattle.cts_scribe.proofs.bounds.recall_entries.Given as goal

abbrev pub invariant-entries : goal.invariant-entries
invariant-entries l = record {
  within : l.place ≤ length l.hall.entries;
  fits : All (Fits l.hall.basis.site) (take l.place l.hall.entries);
}

abbrev pub decreases-entries : goal.decreases-entries
decreases-entries l = length l.hall.entries - l.place
