use Rattle.std.proofs.Common.{rules}
use Rattle.cts_stream.proofs.terminated.first_unseen.Goals as goal

pub returns-then-read-eq0 : goal.returns-then-read-eq0
returns-then-read-eq0 c = search rules

pub returns-else-read-eq0 : goal.returns-else-read-eq0
returns-else-read-eq0 c = search rules
