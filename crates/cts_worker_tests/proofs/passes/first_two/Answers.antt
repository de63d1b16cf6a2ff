use Rattle.std.proofs.Common.{ap, ◌∙◌, ◌∷◌, [], ℕ, arith}
use Rattle.cts_turn.proofs.Makers.{split_from}
use Rattle.cts_worker_tests.proofs.passes.first_two.Goals as goal

pub split-first-requires-clause-two : goal.split-first-requires-clause-two
split-first-requires-clause-two g c = (split_from c.args.pass.now.seat.me.0.makers 0 c.requires.makers (omega arith)).2

pub split-second-requires-clause-two : goal.split-second-requires-clause-two
split-second-requires-clause-two g c =
    (split_from c.split-first.new.pass.seat.me.0.makers 1 (ap (λ v. v.makers) c.split-first.ensures.view ∙ (split_from c.args.pass.now.seat.me.0.makers 0 c.requires.makers (omega arith)).0) (omega arith)).2

pub returns-clause-makers : goal.returns-clause-makers
returns-clause-makers g c =
    let one = split_from c.args.pass.now.seat.me.0.makers 0 c.requires.makers (omega arith) in
    let two = split_from c.split-first.new.pass.seat.me.0.makers 1 (ap (λ v. v.makers) c.split-first.ensures.view ∙ one.0) (omega arith) in (
      ap (λ v. v.makers) c.split-second.ensures.view ∙ two.0,
      ap (λ v. v.makers) c.split-first.ensures.new ∙ ap (λ (m : ℕ). m ∷ []) one.1,
      ap (λ v. v.makers) c.split-second.ensures.new ∙ ap (λ (m : ℕ). m ∷ []) two.1,
    )
