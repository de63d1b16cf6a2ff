use Rattle.std.proofs.Common.{◌≡◌, IsTrue, take}
use Rattle.std.specs.List.{list_all}
use Rattle.cts_def.specs.Starts.{has_places}
use Rattle.cts_plan.specs.Standing.{starts_of}
use Rattle.cts_plan.proofs.completing.starts_of.Given as goal

abbrev pub invariant-loop-packet : goal.invariant-loop-packet
invariant-loop-packet l = record {
  value : l.starts ≡ starts_of l.targets (take l.packet-index l.packets);
  placed : IsTrue (list_all has_places l.starts);
}
