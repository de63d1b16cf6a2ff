use Rattle.std.proofs.Common.{◌≡◌, ◌++◌, false, List, length}
use Rattle.cts_def.specs.Sites.{SiteData}
use Rattle.cts_entry.specs.declared.event.Event.{Event}
use Rattle.cts_outside.specs.Seen.{VaultSeen}
use Rattle.cts_run.specs.Acts.{Outside, outside}
use Rattle.cts_run.specs.Play.{IsPlaying}
use Rattle.cts_run.proofs.play.do_events.Given as goal

abbrev pub invariant-events : goal.invariant-events
invariant-events g l =
    (site : SiteData) (before : List Event) (old : Outside) (vault : VaultSeen) → IsPlaying site before false l.fn.story old (outside (g.O.Sink.seen l.fn.out) vault)
    → (done : List Event) × (done ++ l.left ≡ l.events) × IsPlaying site (before ++ done) l.over l.story old (outside (g.O.Sink.seen l.out) vault)

abbrev pub decreases-events : goal.decreases-events
decreases-events g l = length l.left
