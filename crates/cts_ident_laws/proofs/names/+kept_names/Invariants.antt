use Rattle.std.proofs.Common.{length}
use Rattle.cts_ident_laws.proofs.names.+kept_names.Given as goal

abbrev pub decreases-kept_names : goal.decreases-kept_names
decreases-kept_names l = length l.packets.now
