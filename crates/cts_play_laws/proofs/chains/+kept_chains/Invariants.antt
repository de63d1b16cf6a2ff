use Rattle.std.proofs.Common.{length}
use Rattle.cts_play_laws.proofs.chains.+kept_chains.Given as goal

abbrev pub decreases-kept_chains : goal.decreases-kept_chains
decreases-kept_chains l = length l.interfaces.now
