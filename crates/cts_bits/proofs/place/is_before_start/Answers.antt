use Rattle.std.proofs.Common.{rules}
use Rattle.cts_bits.proofs.place.is_before_start.Goals as goal

pub returns-in-Big : goal.returns-in-Big
returns-in-Big c = search rules

pub returns-then-not-is_whole : goal.returns-then-not-is_whole
returns-then-not-is_whole c = search rules

pub returns-else-not-is_whole : goal.returns-else-not-is_whole
returns-else-not-is_whole c = search rules
