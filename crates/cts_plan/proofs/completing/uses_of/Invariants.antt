use Rattle.std.proofs.Common.{◌≡◌, ◌++◌, length, map}
use Rattle.std.specs.Vec.Iter.{into_iter_items, into_iter_len}
use Rattle.cts_plan.specs.Completing.{first_step_fault}
use Rattle.cts_plan.specs.Standing.{use_of}
use Rattle.cts_plan.proofs.completing.uses_of.Given as goal

abbrev pub invariant-loop-step : goal.invariant-loop-step
invariant-loop-step l =
    (l.uses ++ map (use_of l.definitions l.targets) (into_iter_items l.step-iterator) ≡ map (use_of l.definitions l.targets) l.fn.steps)
    × (first_step_fault l.definitions l.targets (into_iter_items l.step-iterator) ≡ first_step_fault l.definitions l.targets l.fn.steps)
    × (into_iter_len l.step-iterator ≡ length (into_iter_items l.step-iterator))
