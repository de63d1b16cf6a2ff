use Rattle.std.proofs.Common.{◌≡◌, ◌++◌, drop, map}
use Rattle.cts_chain.specs.Shapes.{writers}
use Rattle.cts_trace.specs.Routing.{queue}
use Rattle.cts_connection.specs.Routings.{site_routing}
use Rattle.cts_connection.specs.Writings.{spell_by}
use Rattle.cts_connection.proofs.writing.spell_queue.Given as goal

abbrev pub invariant-loop-n : goal.invariant-loop-n
invariant-loop-n g l =
    let site = l.hall.basis.site in
    let spell = spell_by site (writers (g.C.Chained.shape l.chain)) in
    record {
      spelled : l.spellings.items ++ map spell (queue (site_routing site) l.by (drop l.n l.hall.entries)) ≡ map spell (queue (site_routing site) l.by (drop l.place l.hall.entries));
    }
