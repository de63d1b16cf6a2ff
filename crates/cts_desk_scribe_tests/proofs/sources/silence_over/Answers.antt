use Rattle.std.proofs.Common.{◌≡◌, ◌≤◌, ap, arith, ◌∙◌, true}
use Rattle.cts_entry.specs.Workers.{is_desk}
use Rattle.cts_table.specs.declared.basis.Basis.{Basis}
use Rattle.cts_trace.proofs.Others.{strange_ended}
use Rattle.cts_trace.specs.Makers.{of_maker}
use Rattle.cts_turn.proofs.Makers.{has_from}
use Rattle.cts_turn.specs.Lists.{has}
use Rattle.cts_turn.specs.Passes.{view}
use Rattle.cts_desk_scribe_tests.proofs.sources.silence_over.Goals as goal

pub connect-talk-requires-clause-ready : goal.connect-talk-requires-clause-ready
connect-talk-requires-clause-ready g c =
    let some : 1 ≤ c.args.hall.basis.site.desks = c.is_kept.ensures.site.some_desks in
    let there : is_desk c.args.hall.basis.site 24 ≡ true = grind arith in record {
      makers = ap (has 24) c.in_ok-turn.ensures.makers ∙ has_from 0 24 (omega arith) (omega arith);
      desk = ap (λ (b : Basis). is_desk b.site 24) c.in_ok-turn.ensures.basis ∙ there;
      active = strange_ended 24 (view c.in_ok-turn.pass).seen (ap (of_maker 24) (c.in_ok-turn.ensures.seen.0 ∙ c.requires.empty));
    }

pub close-left-requires-clause-all : goal.close-left-requires-clause-all
close-left-requires-clause-all g c = λ m lt. ap (has m) (c.connect-talk.ensures.onward.makers ∙ c.in_ok-turn.ensures.makers) ∙ has_from 0 m (omega arith) lt
