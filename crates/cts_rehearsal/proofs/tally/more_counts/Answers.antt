use Rattle.std.proofs.Common.{append_assoc}
use Rattle.cts_rehearsal.proofs.tally.more_counts.Goals as goal

-- the two ways in which the parts of the lines group
pub returns : goal.returns
returns c = simp append_assoc (cc (c.in_ok-lines.ensures.ok, c.as_bytes.ensures.value, c.in_ok-from_slice.ensures.items))
