use Rattle.std.proofs.Common.{◌≡◌, ◌==◌, ◌∷◌, [], false, ap, arith, ◌∙◌, sym}
use Rattle.std.specs.List.{list_any}
use Rattle.cts_entry.specs.declared.entry.Entry.{Entry}
use Rattle.cts_table.specs.declared.basis.Basis.{Basis}
use Rattle.cts_trace.specs.Makers.{of_maker}
use Rattle.cts_turn.proofs.Makers.{has_from, split_from}
use Rattle.cts_turn.specs.Lists.{has}
use Rattle.cts_desk_scribe_tests.proofs.Silent.{silent}
use Rattle.cts_desk_scribe_tests.proofs.scribing.run_beside.Goals as goal

pub split-first-requires-clause-two : goal.split-first-requires-clause-two
split-first-requires-clause-two g c = (split_from _ 0 c.in_ok-turn.ensures.makers (omega arith)).2

pub run_over-end-requires-clause-first : goal.run_over-end-requires-clause-first
run_over-end-requires-clause-first g c = ap (λ v. has 0 v.makers) c.split-first.ensures.new ∙ ap (λ m. has 0 (m ∷ [])) (split_from _ 0 c.in_ok-turn.ensures.makers (omega arith)).1

pub run_over-end-requires-clause-scribe : goal.run_over-end-requires-clause-scribe
run_over-end-requires-clause-scribe g c =
    ap (λ v. has 28 v.makers) c.split-first.ensures.view ∙ ap (has 28) (split_from _ 0 c.in_ok-turn.ensures.makers (omega arith)).0 ∙ has_from 1 28 (omega arith) (omega arith)

pub run_over-end-requires-clause-new : goal.run_over-end-requires-clause-new
run_over-end-requires-clause-new g c =
    let none : list_any (λ (e : Entry). e.by == 28) c.args.hall.entries ≡ false = sym c.has_made.ensures ∙ c.if-has_made.false in
    ap (λ v. of_maker 28 v.seen) c.split-first.ensures.view ∙ ap (of_maker 28) c.in_ok-turn.ensures.seen.0 ∙ silent 28 c.args.hall.entries none

pub run_over-end-requires-clause-site : goal.run_over-end-requires-clause-site
run_over-end-requires-clause-site g c = c.requires.site ∙ sym (ap (λ (b : Basis). b.site) c.in_ok-turn.ensures.basis)
