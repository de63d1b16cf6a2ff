use Rattle.cts_play_laws.proofs.Timed.{AreShortTo}
use Rattle.cts_play_laws.proofs.times.times_are_short.Given as goal

abbrev pub invariant-loop-n : goal.invariant-loop-n
invariant-loop-n g l = AreShortTo (g.H.Stands.list l.history) l.n
