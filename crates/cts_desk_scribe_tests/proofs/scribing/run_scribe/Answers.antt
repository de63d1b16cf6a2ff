use Rattle.std.proofs.Common.{◌≡◌, ◌==◌, false, ap, arith, ◌∙◌, sym}
use Rattle.std.specs.List.{list_any}
use Rattle.cts_entry.specs.declared.entry.Entry.{Entry}
use Rattle.cts_table.specs.declared.basis.Basis.{Basis}
use Rattle.cts_trace.specs.Makers.{of_maker}
use Rattle.cts_turn.proofs.Makers.{has_from}
use Rattle.cts_turn.specs.Lists.{has}
use Rattle.cts_desk_scribe_tests.proofs.Silent.{silent}
use Rattle.cts_desk_scribe_tests.proofs.scribing.run_scribe.Goals as goal

pub run-end-requires-clause-by : goal.run-end-requires-clause-by
run-end-requires-clause-by g c = ap (has 28) c.in_ok-turn.ensures.makers ∙ has_from 0 28 (omega arith) (omega arith)

pub run-end-requires-clause-new : goal.run-end-requires-clause-new
run-end-requires-clause-new g c =
    let none : list_any (λ (e : Entry). e.by == 28) c.args.hall.entries ≡ false = sym c.has_made.ensures ∙ c.if-has_made.false in
    ap (of_maker 28) c.in_ok-turn.ensures.seen.0 ∙ silent 28 c.args.hall.entries none

pub run-end-requires-clause-site : goal.run-end-requires-clause-site
run-end-requires-clause-site g c = c.requires.site ∙ sym (ap (λ (b : Basis). b.site) c.in_ok-turn.ensures.basis)

pub close-hall-requires-clause-all : goal.close-hall-requires-clause-all
close-hall-requires-clause-all g c = λ m lt. ap (has m) (c.run-end.ensures.onward.makers ∙ c.in_ok-turn.ensures.makers) ∙ has_from 0 m (omega arith) lt
