use Rattle.std.proofs.Common.{append_assoc}
use Rattle.cts_run.proofs.halt.lines.numbers.Goals as goal

-- the two ways in which the parts of the line group
pub returns : goal.returns
returns c = simp append_assoc (cc (c.in_ok-line.ensures.ok, c.as_bytes.ensures.value, c.in_ok-from_slice.ensures.items))
