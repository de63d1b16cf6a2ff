use Rattle.std.proofs.Common.{◌≡◌, take}
use Rattle.std.specs.Int.Digits.{number_from_digits}
use Rattle.cts_bits.specs.Windows.{in_order}
use Rattle.cts_bits.proofs.window.number_in.Given as goal

abbrev pub invariant-loop-i : goal.invariant-loop-i
invariant-loop-i l = l.number ≡ number_from_digits 256 (take l.i (in_order l.order l.window))
