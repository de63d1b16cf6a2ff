use Rattle.std.proofs.Common.{List, length}
use Rattle.cts_run.specs.Acts.{Act, AreDone, outside}
use Rattle.cts_run.specs.Story.{site_told}
use Rattle.cts_run.proofs.ReplayLemmas.{IsProgress}
use Rattle.cts_run.proofs.replay.do_events.Given as goal

abbrev pub invariant-events : goal.invariant-events
invariant-events g l =
    (acts : List Act) × IsProgress (site_told l.fn.story) l.events l.left l.story acts × AreDone acts (outside (g.O.Sink.seen l.fn.out) (g.V.Vault.seen l.fn.vault)) (outside (g.O.Sink.seen l.out) (g.V.Vault.seen l.vault))

abbrev pub decreases-events : goal.decreases-events
decreases-events g l = length l.left
