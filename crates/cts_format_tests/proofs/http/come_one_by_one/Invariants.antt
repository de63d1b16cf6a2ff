use Rattle.std.proofs.Common.{◌≡◌, false}
use Rattle.cts_format_tests.proofs.http.come_one_by_one.Given as goal

abbrev pub invariant-loop-byte : goal.invariant-loop-byte
invariant-loop-byte l = l.reader.closed ≡ false
