use Rattle.std.proofs.Common.{◌≡◌, ◌≤◌, ◌+◌, length, take}
use Rattle.std.specs.List.{suffix_len}
use Rattle.cts_base.specs.Prints.{is_zero_digit}
use Rattle.cts_base.proofs.print.without_trailing_zeros.Given as goal

abbrev pub invariant-loop-end : goal.invariant-loop-end
invariant-loop-end l =
    (l.end ≤ length l.digits) × (l.end + suffix_len is_zero_digit l.digits ≡ length l.digits + suffix_len is_zero_digit (take l.end l.digits))

abbrev pub decreases-loop-end : goal.decreases-loop-end
decreases-loop-end l = l.end
