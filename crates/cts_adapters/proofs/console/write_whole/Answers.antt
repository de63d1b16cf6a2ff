use Rattle.std.proofs.Common.{arith, rules}
use Rattle.std.proofs.lemmas.List.{take_rest}
use Rattle.std.proofs.KnownBytes.{Appends-kept}
use Rattle.cts_adapters.proofs.Writing.{written_more}
use Rattle.cts_adapters.proofs.console.write_whole.Goals as goal
use Rattle.cts_adapters.proofs.console.write_whole.Goals.{in-Ok, in-Err}

pub tries-preserved : goal.tries-preserved
tries-preserved g c =
    elim c.match-write.branch [
      | in-Ok w ↦ record {
        within = search (rules, w.in-Ok.ensures.bound);
        written = rw w.at-is (written_more _ _ _ _ c.tries.at w.in-Ok.count c.tries.invariant.written (rw (take_rest c.args.bytes.now c.tries.at) at w.in-Ok.ensures.bytes));
      }
      | in-Err w ↦ record {
        within = omega arith;
        written = rw w.at-is (Appends-kept _ _ _ _ c.tries.invariant.written w.in-Err.ensures.bytes);
      }
    ]
