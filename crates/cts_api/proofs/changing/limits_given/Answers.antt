use Rattle.std.proofs.Common.{arith, ℕ, ◌≤◌, rules, ◌≡◌, subst, sym}
use Rattle.std.proofs.lemmas.Grind.{common_steps}
use Rattle.std.specs.Prelude.{unwrap_or}
use Rattle.cts_api.proofs.Persisting.{new_persists}
use Rattle.cts_api.proofs.changing.limits_given.Goals as goal

pub returns-clause-persistent : goal.returns-clause-persistent
returns-clause-persistent c asked some =
    let is : c.unwrap_or.result ≡ unwrap_or c.args.new.persistence c.args.now.persistence = search rules in
    subst (λ (n : ℕ). 1 ≤ n) (sym is) (new_persists c.args.new.persistence c.args.now.persistence asked some)

pub returns-clause-told : goal.returns-clause-told
returns-clause-told c = grind (arith, common_steps)

pub returns-then-not-are_in_order-clause-told : goal.returns-then-not-are_in_order-clause-told
returns-then-not-are_in_order-clause-told c = grind (arith, common_steps)

pub returns-in_err-set-clause-told : goal.returns-in_err-set-clause-told
returns-in_err-set-clause-told c = grind (arith, common_steps)
