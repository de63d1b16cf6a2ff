use Rattle.std.proofs.Common.{◌≡◌, ◌+◌, drop}
use Rattle.cts_plan.specs.Standing.{number_of}
use Rattle.cts_plan.proofs.draft.number_of.Given as goal

abbrev pub invariant-loop-interface : goal.invariant-loop-interface
invariant-loop-interface l =
    (l.number ≡ l.interface-index)
    × (l.number + number_of (drop l.interface-index l.interfaces) l.name ≡ number_of l.interfaces l.name)
