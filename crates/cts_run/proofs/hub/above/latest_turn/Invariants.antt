use Rattle.std.proofs.Common.{◌≡◌, drop}
use Rattle.cts_entry.specs.Histories.{connects_maker, latest, or_earlier}
use Rattle.cts_run.proofs.hub.above.latest_turn.Given as goal

abbrev pub invariant-loop-n : goal.invariant-loop-n
invariant-loop-n g l = or_earlier (latest (connects_maker l.maker) (drop l.n (g.H.Stands.list l.history))) l.found ≡ latest (connects_maker l.maker) (drop l.from (g.H.Stands.list l.history))
