use Rattle.std.proofs.Common.{length}
use Rattle.cts_words.proofs.Lines.{IsReading}
use Rattle.cts_words.proofs.reading.read_lines.Given as goal

abbrev pub invariant-loop-rest : goal.invariant-loop-rest
invariant-loop-rest l = IsReading l.joiner l.rest l.text

abbrev pub decreases-loop-rest : goal.decreases-loop-rest
decreases-loop-rest l = length l.rest
