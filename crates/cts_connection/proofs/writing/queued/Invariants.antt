use Rattle.std.proofs.Common.{◌≡◌, ◌+◌, ◌≤◌, drop, length}
use Rattle.cts_trace.specs.Routing.{queue}
use Rattle.cts_connection.specs.Routings.{site_routing}
use Rattle.cts_connection.proofs.writing.queued.Given as goal

abbrev pub invariant-loop-n : goal.invariant-loop-n
invariant-loop-n l =
    let mine = queue (site_routing l.hall.basis.site) l.by in
    record {
      counted : l.count + length (mine (drop l.n l.hall.entries)) ≡ length (mine (drop l.place l.hall.entries));
      few : l.count ≤ l.n;
    }
