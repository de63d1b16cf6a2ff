use Rattle.std.proofs.Common.{◌≡◌, ◌+◌, ◌≤◌, drop, length}
use Rattle.std.specs.List.{filter}
use Rattle.cts_run.specs.Rehearsal.{is_packet}
use Rattle.cts_run.proofs.rehearse.counting.packets_in.Given as goal

abbrev pub invariant-loop-n : goal.invariant-loop-n
invariant-loop-n g l =
    let history = g.H.Stands.list l.history in
    record {
      counted : l.count + length (filter is_packet (drop l.n history)) ≡ length (filter is_packet history);
      few : l.count ≤ l.n;
    }
