use Rattle.cts_connection.proofs.Supplying.{AreSet}
use Rattle.cts_connection.proofs.chains.chains_of.Given as goal

abbrev pub invariant-loop-place : goal.invariant-loop-place
invariant-loop-place l = AreSet l.site l.chains l.place
