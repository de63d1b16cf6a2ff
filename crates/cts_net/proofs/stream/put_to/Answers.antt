use Rattle.std.proofs.Common.{arith, rules}
use Rattle.std.proofs.lemmas.List.{take_rest}
use Rattle.std.proofs.KnownBytes.{Appends-kept}
use Rattle.cts_adapters.proofs.Writing.{written_more}
use Rattle.cts_net.proofs.stream.put_to.Goals as goal
use Rattle.cts_net.proofs.stream.put_to.Goals.{in-Ok, in-Err}

pub writes-preserved : goal.writes-preserved
writes-preserved g c =
    elim c.match-write.branch [
      | in-Ok w ↦ record {
        within = search (rules, w.in-Ok.ensures.bound);
        written = rw w.at-is (written_more _ _ _ _ c.writes.at w.in-Ok.count c.writes.invariant.written (rw (take_rest c.args.bytes.now c.writes.at) at w.in-Ok.ensures.bytes));
      }
      | in-Err w ↦ record {
        within = omega arith;
        written = rw w.at-is (Appends-kept _ _ _ _ c.writes.invariant.written w.in-Err.ensures.bytes);
      }
    ]
