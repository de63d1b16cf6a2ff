use Rattle.cts_bits.proofs.Turns.{IsWritten}
use Rattle.cts_bits.proofs.window.put.Given as goal

abbrev pub invariant-loop-done : goal.invariant-loop-done
invariant-loop-done l = IsWritten l.order l.window l.len l.number l.rest l.done
