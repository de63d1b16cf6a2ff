use Rattle.std.proofs.Common.{◌≡◌, ◌∙◌, [], ℕ, ap, inr, subst, sym}
use Rattle.cts_publisher.specs.Publishing.{publisher}
use Rattle.cts_trace.specs.Makers.{of_maker}
use Rattle.cts_turn.specs.Passes.{IsPassOf, view}
use Rattle.cts_worker.specs.Holds.{Onward}
use Rattle.cts_worker.proofs.Onwards.{onward_same}
use Rattle.cts_snap_server.proofs.publisher.cancel_publisher.Goals as goal

pub returns-clause-pass : goal.returns-clause-pass
returns-clause-pass g c = subst (λ p. IsPassOf c.args.turn.now p) (sym c.cancel-end.ensures.pass) c.requires.pass

pub returns-clause-onward : goal.returns-clause-onward
returns-clause-onward g c = subst (λ p. Onward (view c.args.pass) (view p)) (sym c.cancel-end.ensures.pass) (onward_same (view c.args.pass))

pub returns-clause-owes : goal.returns-clause-owes
returns-clause-owes g c =
    let e = c.cancel-end.ensures in record {
      silent = ap (λ p. of_maker publisher (view p).seen) e.pass
          ∙ subst (λ (n : ℕ). of_maker n (view c.args.pass).seen ≡ []) c.requires.can.number c.requires.new;
      did = inr (record { none = c.requires.can.none; cancelled = e.why });
    }

pub returns-clause-cancelled : goal.returns-clause-cancelled
returns-clause-cancelled g c = c.cancel-end.ensures.why
