use Rattle.cts_turn.specs.Passes.{view}
use Rattle.cts_worker.specs.Grounds.{ground}
use Rattle.cts_scribe.proofs.Sighting.{may_end}
use Rattle.cts_scribe.proofs.holds.give_up.Goals as goal

pub end-pass-requires-clause-may : goal.end-pass-requires-clause-may
end-pass-requires-clause-may g c =
    may_end (ground c.args.turn.now).site c.args.by (view c.args.follower.pass).seen c.requires.scribe c.requires.following.silent
