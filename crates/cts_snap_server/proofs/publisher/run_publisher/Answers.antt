use Rattle.std.proofs.Common.{◌≡◌, ◌∙◌, ◌∷◌, [], ℕ, ap, inl, subst}
use Rattle.cts_publisher.specs.Publishing.{publisher}
use Rattle.cts_trace.specs.Makers.{of_maker}
use Rattle.cts_turn.specs.Lists.{has}
use Rattle.cts_turn.specs.Passes.{view}
use Rattle.cts_worker.specs.Grounds.{ground}
use Rattle.cts_worker.proofs.Holdings.{by_one}
use Rattle.cts_snap_server.proofs.Endings.{begins_any, begins_itself, publisher_ran}
use Rattle.cts_snap_server.proofs.publisher.run_publisher.Goals as goal

pub run-end-requires-clause-by : goal.run-end-requires-clause-by
run-end-requires-clause-by g c = ap (has publisher) (c.requires.makers ∙ ap (λ (n : ℕ). n ∷ []) c.requires.can.number) ∙ by_one publisher

pub run-end-requires-clause-fits : goal.run-end-requires-clause-fits
run-end-requires-clause-fits g c = c.requires.can.fits

pub run-end-requires-clause-begins : goal.run-end-requires-clause-begins
run-end-requires-clause-begins g c = begins_any _ (view c.args.pass).seen (ap (λ w. w.list) c.requires.can.none)

pub returns-clause-onward : goal.returns-clause-onward
returns-clause-onward g c = let o = c.run-end.ensures.onward in record { makers = o.makers; seen = o.seen; found = o.found }

pub returns-clause-owes : goal.returns-clause-owes
returns-clause-owes g c =
    let e = c.run-end.ensures in
    let seen = (view c.run-end.result.pass).seen in record {
      silent = e.own ∙ subst (λ (n : ℕ). of_maker n (view c.args.pass).seen ≡ []) c.requires.can.number c.requires.new;
      did = inl (record { seen = seen; begins = begins_itself seen; published = e.published; list = e.list; ends = e.ends });
    }

pub returns-clause-worked : goal.returns-clause-worked
returns-clause-worked g c =
    publisher_ran (ground c.args.turn.now).site (view c.run-end.result.pass).seen c.run-end.new.writer c.run-end.result.why c.run-end.ensures.ends
