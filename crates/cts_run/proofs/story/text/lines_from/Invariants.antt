use Rattle.std.proofs.Common.{◌≡◌, take, drop}
use Rattle.cts_run.specs.Transcript.{lines_of}
use Rattle.cts_run.proofs.story.text.lines_from.Given as goal

abbrev pub invariant-loop-i : goal.invariant-loop-i
invariant-loop-i g l =
    let history = g.H.Stands.list l.history in
    l.lines.items ≡ lines_of l.site (take l.from history) (take l.i (drop l.from history))
