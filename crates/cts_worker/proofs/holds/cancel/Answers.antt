use Rattle.std.proofs.Common.{true, refl}
use Rattle.cts_turn.specs.Passes.{view}
use Rattle.cts_worker.specs.Grounds.{ground}
use Rattle.cts_worker.specs.Lasts.{first_moment}
use Rattle.cts_worker.proofs.Lasting.{ended_onward, ended_only, ended_stops, new_may_end}
use Rattle.cts_worker.proofs.holds.cancel.Goals as goal

pub end-requires-clause-may : goal.end-requires-clause-may
end-requires-clause-may g c = new_may_end (ground c.args.turn.now).site c.args.by (view c.args.pass).seen c.requires.worker c.requires.new

pub returns-clause-onward : goal.returns-clause-onward
returns-clause-onward g c = ended_onward c.args.by first_moment true (view c.args.pass) (view c.end.result) c.end.ensures.ended

pub returns-clause-own : goal.returns-clause-own
returns-clause-own g c = ended_only c.args.by first_moment true (view c.args.pass) (view c.end.result) c.end.ensures.ended c.requires.new

pub returns-clause-stops : goal.returns-clause-stops
returns-clause-stops g c = ended_stops c.args.by first_moment true (view c.args.pass) (view c.end.result) c.end.ensures.ended refl
