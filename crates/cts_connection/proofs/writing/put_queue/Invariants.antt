use Rattle.std.proofs.Common.{◌≡◌, ◌+◌, ◌-◌, ◌≤◌, ◌++◌, drop, take}
use Rattle.cts_chain.specs.Shapes.{writers}
use Rattle.cts_entry.specs.Queues.{refused, spelled}
use Rattle.cts_trace.specs.Routing.{queue}
use Rattle.cts_connection.specs.Routings.{site_routing}
use Rattle.cts_connection.specs.Writings.{spell_by}
use Rattle.cts_connection.proofs.writing.put_queue.Given as goal

abbrev pub invariant-loop-n : goal.invariant-loop-n
invariant-loop-n g l =
    let site = l.hall.basis.site in
    let spell = spell_by site (writers (g.C.Chained.shape l.chain)) in
    let mine = queue (site_routing site) l.by in
    let left = take (l.place + l.next - l.n) (drop l.n l.hall.entries) in
    let all = take l.next (drop l.place l.hall.entries) in
    record {
      bytes : l.out.items ++ spelled spell (mine left) ≡ l.initial.out.items ++ spelled spell (mine all);
      count : l.refused + refused spell (mine left) ≡ refused spell (mine all);
      few : l.refused + l.place ≤ l.n;
    }
