use Rattle.std.proofs.Common.{length}
use Rattle.cts_extract.proofs.finding.+take_items.Given as goal

abbrev pub decreases-take_items : goal.decreases-take_items
decreases-take_items l = length l.words.now
