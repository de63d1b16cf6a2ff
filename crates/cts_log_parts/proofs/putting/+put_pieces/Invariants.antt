use Rattle.std.proofs.Common.{length}
use Rattle.cts_log_parts.proofs.putting.+put_pieces.Given as goal

abbrev pub decreases-put_pieces : goal.decreases-put_pieces
decreases-put_pieces g l = length l.places.now
