use Rattle.std.proofs.Common.{◌-◌, length}
use Rattle.cts_run.proofs.PlayLemmas.{HasPlayed}
use Rattle.cts_run.proofs.play.play_entries.Given as goal

abbrev pub invariant-loop-entry : goal.invariant-loop-entry
invariant-loop-entry g l = HasPlayed l.fn.reader.file l.opened l.fn.story (g.O.Sink.seen l.fn.out) l.reader l.last l.over l.story (g.O.Sink.seen l.out)

abbrev pub decreases-loop-entry : goal.decreases-loop-entry
decreases-loop-entry g l = length l.reader.file - l.reader.place
