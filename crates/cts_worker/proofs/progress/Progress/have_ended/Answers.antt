use Rattle.std.proofs.Common.{rules, ◌≡◌, true, false, arith}
use Rattle.std.proofs.lemmas.Bool.{both_ways}
use Rattle.cts_worker.proofs.Marking.{done_next}
use Rattle.cts_worker.proofs.progress.Progress.have_ended.Goals as goal

pub returns-then-not-is_done : goal.returns-then-not-is_done
returns-then-not-is_done c = λ before t.
    let iff = c.is_done.ensures before t in (
      (λ e. absurd (let f : false ≡ true = e in cc)),
      λ have. absurd (both_ways c.is_done.result (let h = c.if-not-is_done.true in grind arith) (iff.1 (have c.workers.by))),
    )

pub workers-preserved : goal.workers-preserved
workers-preserved c = record {
  within = search rules;
  done = λ before t. done_next c.args.site.now c.args.but c.workers.by before (c.workers.invariant.done before t) ((c.is_done.ensures before t).0 (let h = c.if-not-is_done.false in grind arith));
}
