use Rattle.std.proofs.Common.{rules}
use Rattle.cts_encode.proofs.counted.count_of.Goals as goal

pub returns-then-counted-lt0 : goal.returns-then-counted-lt0
returns-then-counted-lt0 c = search rules

pub returns-then-counted-per_count-eq0 : goal.returns-then-counted-per_count-eq0
returns-then-counted-per_count-eq0 c = search rules

pub returns-else-counted-per_count-eq0 : goal.returns-else-counted-per_count-eq0
returns-else-counted-per_count-eq0 c = search rules
