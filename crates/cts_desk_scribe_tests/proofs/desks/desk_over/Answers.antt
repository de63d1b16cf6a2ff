use Rattle.std.proofs.Common.{◌≡◌, ◌≤◌, ap, arith, ◌∙◌, true}
use Rattle.cts_entry.specs.Workers.{is_desk}
use Rattle.cts_table.specs.declared.basis.Basis.{Basis}
use Rattle.cts_trace.specs.Makers.{of_maker}
use Rattle.cts_turn.proofs.Makers.{has_from}
use Rattle.cts_turn.specs.Lists.{has}
use Rattle.cts_desk_scribe_tests.proofs.desks.desk_over.Goals as goal

pub run-end-requires-clause-by : goal.run-end-requires-clause-by
run-end-requires-clause-by g c = ap (has 24) c.in_ok-turn.ensures.makers ∙ has_from 0 24 (omega arith) (omega arith)

pub run-end-requires-clause-new : goal.run-end-requires-clause-new
run-end-requires-clause-new g c = ap (of_maker 24) (c.in_ok-turn.ensures.seen.0 ∙ c.requires.empty)

pub run-end-requires-clause-desk : goal.run-end-requires-clause-desk
run-end-requires-clause-desk g c =
    let some : 1 ≤ c.args.hall.basis.site.desks = c.is_kept.ensures.site.some_desks in
    let there : is_desk c.args.hall.basis.site 24 ≡ true = grind arith in
    ap (λ (b : Basis). is_desk b.site 24) c.in_ok-turn.ensures.basis ∙ there

pub close-left-requires-clause-all : goal.close-left-requires-clause-all
close-left-requires-clause-all g c = λ m lt. ap (has m) (c.run-end.ensures.onward.makers ∙ c.in_ok-turn.ensures.makers) ∙ has_from 0 m (omega arith) lt
