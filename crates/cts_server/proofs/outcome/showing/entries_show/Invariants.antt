use Rattle.std.proofs.Common.{◌≡◌, false, take}
use Rattle.std.specs.List.{list_any}
use Rattle.cts_server.specs.Troubles.{closed_shows}
use Rattle.cts_trace.specs.Makers.{closes_for}
use Rattle.cts_server.proofs.outcome.showing.entries_show.Given as goal

abbrev pub invariant-entries : goal.invariant-entries
invariant-entries l = list_any (λ e. closes_for (closed_shows l.trouble) e.what) (take l.n l.history) ≡ false
